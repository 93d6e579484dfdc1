-- What the checks at a field say of its number and of the numbers before it.
use Prim.Native.Nat.{ℕ, ◌+◌, ◌-◌, ◌≤◌, ◌<◌}
use mathlib.Core.Path.{◌≡◌, refl, ◌∙◌}
use mathlib.Core.List.{List}
use mathlib.Core.Bool.{true, ◌&&◌}
use native.Mathlib.Omega.{arith}
use lib.ListN.{get_or}
use lib.Dec.{leb}
use borrow.Author.Tests.{eqb-true, ltb-true, leb-true}
use Rattle.model.specs.declared.Field.{Field}
use Rattle.model.specs.Table.{least, greatest, base, count_over}
use Rattle.model.specs.File.{edition_in, unwritten, in_range, below_count, from_header, zero_unwritten, edge_before, edge_span, loop_span}
use Rattle.model.proofs.Cases.{and_left, and_right}
use Rattle.fields.proofs.Laws.{under_count, after_header, must_be_zero, edge_ascends, loop_ascends}
use Rattle.fields.proofs.Steps.{in_row}
use Rattle.fields.proofs.OneField.{Passed}
use Rattle.model.specs.Places as places
use Rattle.model.specs.Rows as rows

module _ (l : List ℕ) where
  narrowed : (c : Field) (v : ℕ) → in_range l c v ≡ true → (below_count l c.row v && (from_header l c v && zero_unwritten l c v)) ≡ true
  unfolding in_range
  narrowed c v e = and_right (leb v (greatest c.row)) _ (and_right (leb (least c.row) v) _ e)

  module _ (p : ℕ) {c : Field} (at : c.place ≡ p) (ok : Passed l c) where
    pub in_limits_lem : (least c.row ≤ get_or l p 0) × (get_or l p 0 ≤ greatest c.row)
    in_limits_lem = rw at at (in_row l c (get_or l c.place 0) ok.in_range_lem)

    pub in_count : (k : ℕ) → k ≡ count_over c.row → (k ≡ 0 → ⊥) → get_or l p 0 < get_or l k 0
    in_count k e n =
        let v : ℕ = get_or l c.place 0 in
        let b = and_left (below_count l c.row v) _ (narrowed c v ok.in_range_lem) in
        ltb-true (get_or l p 0) (get_or l k 0) (rw at at (under_count l c.row v k e n ∙ b))

    pub not_below_header : (k : ℕ) → c.row ≡ rows.last → c.place - (places.last - places.header) ≡ k → get_or l k 0 ≤ get_or l p 0
    not_below_header k e q =
        let v : ℕ = get_or l c.place 0 in
        let b = and_left (from_header l c v) _ (and_right (below_count l c.row v) _ (narrowed c v ok.in_range_lem)) in
        leb-true (get_or l k 0) (get_or l p 0) (rw (q, at) at (after_header l c v e ∙ b))

    pub unwritten_zero : unwritten (edition_in l) c ≡ true → get_or l p 0 ≡ 0
    unwritten_zero none =
        let v : ℕ = get_or l c.place 0 in
        let b = and_right (from_header l c v) _ (and_right (below_count l c.row v) _ (narrowed c v ok.in_range_lem)) in
        eqb-true (get_or l p 0) 0 (rw at at (must_be_zero l c v none ∙ b))

    module _ (later : c.place ≡ base c.row → ⊥) where
      pub edge_order : (from to from' : ℕ) → c.row ≡ rows.to → c.place - (places.edge_width + edge_span) ≡ from → c.place - places.edge_width ≡ to → c.place - edge_span ≡ from' →
          edge_before (get_or l from 0) (get_or l to 0) (get_or l from' 0) (get_or l p 0) ≡ true
      edge_order from to from' e q r s = rw (q, r, s, at) at (edge_ascends l c (base c.row) refl later e _ refl ∙ ok.ascending)

      pub header_order : (header header' : ℕ) → c.row ≡ rows.bound → c.place - (places.loop_width + loop_span) ≡ header → c.place - loop_span ≡ header' → get_or l header 0 < get_or l header' 0
      header_order header header' e q r =
          ltb-true (get_or l header 0) (get_or l header' 0)
          (rw (q, r) at (loop_ascends l c (base c.row) refl later (omega arith) e ∙ ok.ascending))
