-- Numbers with the facts of the fields pass the checks field by field: the other direction of `field_facts`.
use Prim.Native.Nat.{ℕ, zero, suc, ◌+◌, ◌-◌, ◌*◌, ◌≤◌, ◌<◌}
use Rattle.std.specs.Prelude.{Ok}
use mathlib.Core.Path.{◌≡◌, refl, sym, ◌∙◌}
use mathlib.Core.List.{List}
use mathlib.Core.Bool.{true, false}
use native.Mathlib.Omega.{arith}
use lib.ListN.{get_or}
use lib.Dec.{eqb, ltb}
use borrow.Author.Tests.{eq-eqb, ne_eqb, eqb-false, leb-false, lt-ltb, le-leb}
use Rattle.model.specs.declared.Field.{Field}
use Rattle.model.specs.Table.{limits, bases, kinds, jumps, counts, least, greatest, base, count_over}
use Rattle.model.specs.Limits.{first_edition}
use Rattle.model.specs.File.{number_count, at_end, next_field, edition_in, in_range, below_count, from_header, zero_unwritten, ascends, edge_before, check_fields}
use Rattle.model.proofs.Cases.{by_bool, by_same}
use Rattle.fields.specs.Valid.{field}
use Rattle.fields.proofs.Laws.{no_count, under_count, after_header, any_header, must_be_zero, may_be_any, within, first_item, edge_ascends, loop_ascends, no_order}
use Rattle.fields.proofs.Steps.{after_count_lem, after_item_lem}
use Rattle.fields.proofs.Editions.{other_row, check_row, first_unwritten}
use Rattle.fields.proofs.OneField.{Passed}
use Rattle.facts.specs.Fields.{FieldFacts}
use Rattle.facts.proofs.Good.{Good, next}
use Rattle.facts.proofs.Judging.{good_judged}
use Rattle.model.specs.Places as places
use Rattle.model.specs.Rows as rows

module _ (l : List ℕ) where
  -- Item i of a list has so many items after it.
  abbrev Listed : ℕ → ℕ → ℕ → Type 0
  Listed count i left = i + left + 1 ≡ get_or l count 0

  -- The fields that the numbers have, by their counts.
  data Used : Field → Type 0 where
    edition : Used (field rows.edition places.edition 0)
    scratchpad : Used (field rows.scratchpad places.scratchpad 0)
    functions : Used (field rows.function_count places.function_count 0)
    size : (i left : ℕ) → Listed places.function_count i left → Used (field rows.size (places.size + places.function_width * i) left)
    load : (i left : ℕ) → Listed places.function_count i left → Used (field rows.load (places.load + places.function_width * i) left)
    check : (i left : ℕ) → Listed places.function_count i left → Used (field rows.check (places.check + places.function_width * i) left)
    vertices : Used (field rows.vertex_count places.vertex_count 0)
    function : (i left : ℕ) → Listed places.vertex_count i left → Used (field rows.function (places.function + places.vertex_width * i) left)
    cost : (i left : ℕ) → Listed places.vertex_count i left → Used (field rows.cost (places.cost + places.vertex_width * i) left)
    edges : Used (field rows.edge_count places.edge_count 0)
    from : (i left : ℕ) → Listed places.edge_count i left → Used (field rows.from (places.from + places.edge_width * i) left)
    to : (i left : ℕ) → Listed places.edge_count i left → Used (field rows.to (places.to + places.edge_width * i) left)
    loops : Used (field rows.loop_count places.loop_count 0)
    header : (i left : ℕ) → Listed places.loop_count i left → Used (field rows.header (places.header + places.loop_width * i) left)
    last : (i left : ℕ) → Listed places.loop_count i left → Used (field rows.last (places.last + places.loop_width * i) left)
    bound : (i left : ℕ) → Listed places.loop_count i left → Used (field rows.bound (places.bound + places.loop_width * i) left)
    end : Used (field rows.end places.end 0)

  at : {row place place' left : ℕ} → Used (field row place left) → place ≡ place' → Used (field row place' left)
  at {row} {place} {place'} {left} f p = rw (← p) f

  next_used : {c : Field} → Used c → c.row < rows.end → Used (next l c)
  unfolding next_field kinds jumps bases
  next_used edition h = scratchpad
  next_used scratchpad h = functions
  next_used functions h = after_count_lem Used _ _ (λ e. vertices) (λ k. at (size 0 (get_or l places.function_count 0 - 1) (omega arith)) refl)
  next_used (size i left f) h = at (load i left f) (omega arith)
  next_used (load i left f) h = at (check i left f) (omega arith)
  next_used (check i left f) h = after_item_lem Used _ (λ e. vertices) (λ k. at (size (i + 1) (left - 1) (omega arith)) (omega arith))
  next_used vertices h = after_count_lem Used _ _ (λ e. edges) (λ k. at (function 0 (get_or l places.vertex_count 0 - 1) (omega arith)) refl)
  next_used (function i left f) h = at (cost i left f) (omega arith)
  next_used (cost i left f) h = after_item_lem Used _ (λ e. edges) (λ k. at (function (i + 1) (left - 1) (omega arith)) (omega arith))
  next_used edges h = after_count_lem Used _ _ (λ e. loops) (λ k. at (from 0 (get_or l places.edge_count 0 - 1) (omega arith)) refl)
  next_used (from i left f) h = at (to i left f) (omega arith)
  next_used (to i left f) h = after_item_lem Used _ (λ e. loops) (λ k. at (from (i + 1) (left - 1) (omega arith)) (omega arith))
  next_used loops h = after_count_lem Used _ _ (λ e. end) (λ k. at (header 0 (get_or l places.loop_count 0 - 1) (omega arith)) refl)
  next_used (header i left f) h = at (last i left f) (omega arith)
  next_used (last i left f) h = at (bound i left f) (omega arith)
  next_used (bound i left f) h = after_item_lem Used _ (λ e. end) (λ k. at (header (i + 1) (left - 1) (omega arith)) (omega arith))
  next_used end h = let z : ⊥ = omega arith in elim z [ ]

  anywhere : (c : Field) → eqb c.row rows.last ≡ false → true ≡ from_header l c (get_or l c.place 0)
  anywhere c other = any_header l c (get_or l c.place 0) (eqb-false c.row rows.last other)

  uncounted : (row v : ℕ) → count_over row ≡ 0 → below_count l row v ≡ true
  uncounted row v e = sym (no_count l row v (count_over row) refl e)

  written : (c : Field) → eqb c.row rows.check ≡ false → true ≡ zero_unwritten l c (get_or l c.place 0)
  written c other = may_be_any l c _ (sym (other_row (edition_in l) c (eqb-false c.row rows.check other)))

  -- A number within its row's limits, in a row that no count narrows, and in one that a count does; no check cost. (Which rows those are is computed.)
  module _ (c : Field) (low : least c.row ≤ get_or l c.place 0) (high : get_or l c.place 0 ≤ greatest c.row) where
    ranged : below_count l c.row (get_or l c.place 0) ≡ true → true ≡ from_header l c (get_or l c.place 0) → true ≡ zero_unwritten l c (get_or l c.place 0) →
        in_range l c (get_or l c.place 0) ≡ true
    ranged below f z = sym (z ∙ within l c _ low high below (sym f))

    plain : count_over c.row ≡ 0 → eqb c.row rows.last ≡ false → eqb c.row rows.check ≡ false → in_range l c (get_or l c.place 0) ≡ true
    plain e other unlike = ranged (uncounted c.row _ e) (anywhere c other) (written c unlike)

    under : (k : ℕ) → k ≡ count_over c.row → eqb k 0 ≡ false → eqb c.row rows.check ≡ false → get_or l c.place 0 < get_or l k 0 → true ≡ from_header l c (get_or l c.place 0) →
        in_range l c (get_or l c.place 0) ≡ true
    under k e some unlike b f =
        ranged (sym (under_count l c.row _ k e (eqb-false k 0 some)) ∙ lt-ltb (get_or l c.place 0) (get_or l k 0) b) f (written c unlike)

  -- A number in its range, in a row that has no order.
  free : (c : Field) → eqb c.row rows.to ≡ false → eqb c.row rows.bound ≡ false → in_range l c (get_or l c.place 0) ≡ true → Passed l c
  free c no_edge no_loop e =
      record {
        in_range_lem = e;
        ascending =
            by_same c.place (base c.row)
            (λ first. sym (first_item l c (base c.row) refl first))
            (λ later. sym (no_order l c (base c.row) refl later (eqb-false c.row rows.to no_edge) (eqb-false c.row rows.bound no_loop)));
      }

  module _ (ok : FieldFacts l) where
    edge_order : (i left : ℕ) → Listed places.edge_count i left → ascends l (field rows.to (places.to + places.edge_width * i) left) ≡ true
    unfolding bases
    edge_order zero left f = sym (first_item l _ places.to refl refl)
    edge_order (suc i) left f =
        sym
        (edge_ascends l (field rows.to (places.to + places.edge_width * suc i) left) places.to refl (λ (e : places.to + places.edge_width * suc i ≡ places.to). omega arith) refl true
        (sym (ordered _ _ _ _ (omega arith) (omega arith) (omega arith) (omega arith))))
      where
        ordered : (j k j' k' : ℕ) → places.from + places.edge_width * i ≡ j → places.to + places.edge_width * i ≡ k →
            places.from + places.edge_width * (i + 1) ≡ j' → places.to + places.edge_width * (i + 1) ≡ k' →
            edge_before (get_or l j 0) (get_or l k 0) (get_or l j' 0) (get_or l k' 0) ≡ true
        ordered j k j' k' p q r s = rw (← p, ← q, ← r, ← s) (ok.ascend i (omega arith))

    loop_order : (i left : ℕ) → Listed places.loop_count i left → ascends l (field rows.bound (places.bound + places.loop_width * i) left) ≡ true
    unfolding bases
    loop_order zero left f = sym (first_item l _ places.bound refl refl)
    loop_order (suc i) left f =
        sym (loop_ascends l (field rows.bound (places.bound + places.loop_width * suc i) left) places.bound refl (λ (e : places.bound + places.loop_width * suc i ≡ places.bound). omega arith) (λ (e : rows.bound ≡ rows.to). omega arith) refl)
        ∙ ordered _ _ (omega arith) (omega arith)
      where
        ordered : (k k' : ℕ) → places.header + places.loop_width * i ≡ k → places.header + places.loop_width * (i + 1) ≡ k' → ltb (get_or l k 0) (get_or l k' 0) ≡ true
        ordered k k' p q = rw (← p, ← q) (lt-ltb _ _ (ok.headers i (omega arith)))

    from_header_lem : (i left : ℕ) → Listed places.loop_count i left →
        true ≡ from_header l (field rows.last (places.last + places.loop_width * i) left) (get_or l (places.last + places.loop_width * i) 0)
    from_header_lem i left f =
        let e : places.last + places.loop_width * i - (places.last - places.header) ≡ places.header + places.loop_width * i = omega arith in
        sym (rw e (le-leb _ _ (ok.header i (omega arith)))) ∙ after_header l (field rows.last (places.last + places.loop_width * i) left) (get_or l (places.last + places.loop_width * i) 0) refl

    settled : (i left : ℕ) → Listed places.function_count i left →
        true ≡ zero_unwritten l (field rows.check (places.check + places.function_width * i) left) (get_or l (places.check + places.function_width * i) 0)
    settled i left f =
        let c : Field = field rows.check (places.check + places.function_width * i) left in
        by_same (edition_in l) first_edition
        (λ e. sym (eq-eqb _ 0 (ok.unchecked e i (omega arith))) ∙ must_be_zero l c _ (first_unwritten (edition_in l) c refl e))
        (λ n. may_be_any l c _ (sym (check_row (edition_in l) c refl) ∙ ne_eqb (edition_in l) first_edition n))

    passes : {c : Field} → Used c → c.row < rows.end → Passed l c
    unfolding limits counts
    passes edition h = free _ refl refl (plain _ ok.edition_low ok.edition_high refl refl refl)
    passes scratchpad h = free _ refl refl (plain _ ok.scratchpad_low ok.scratchpad_high refl refl refl)
    passes functions h = free _ refl refl (plain _ ok.some_function ok.functions refl refl refl)
    passes (size i left f) h = let q = ok.size i (omega arith) in free _ refl refl (plain _ q.0 q.1 refl refl refl)
    passes (load i left f) h = free _ refl refl (plain _ (omega arith) (ok.load i (omega arith)) refl refl refl)
    passes (check i left f) h = free _ refl refl (ranged _ (omega arith) (ok.check i (omega arith)) (uncounted rows.check _ refl) (anywhere _ refl) (settled i left f))
    passes vertices h = free _ refl refl (plain _ ok.some_vertex ok.vertices refl refl refl)
    passes (function i left f) h =
        let q = ok.function i (omega arith) in
        free _ refl refl (under _ (omega arith) (omega (arith, ok.functions)) places.function_count refl refl refl q (anywhere _ refl))
    passes (cost i left f) h = free _ refl refl (plain _ (omega arith) (ok.cost i (omega arith)) refl refl refl)
    passes edges h = free _ refl refl (plain _ (omega arith) ok.edges refl refl refl)
    passes (from i left f) h =
        let q = ok.from i (omega arith) in
        free _ refl refl (under _ (omega arith) (omega (arith, ok.vertices)) places.vertex_count refl refl refl q (anywhere _ refl))
    passes (to i left f) h =
        let q = ok.to i (omega arith) in
        record { in_range_lem = under _ (omega arith) (omega (arith, ok.vertices)) places.vertex_count refl refl refl q (anywhere _ refl); ascending = edge_order i left f }
    passes loops h = free _ refl refl (plain _ (omega arith) ok.loops refl refl refl)
    passes (header i left f) h =
        let q = ok.header i (omega arith) in
        let r = ok.last i (omega arith) in
        free _ refl refl (under _ (omega arith) (omega (arith, ok.vertices)) places.vertex_count refl refl refl (omega arith) (anywhere _ refl))
    passes (last i left f) h =
        let q = ok.last i (omega arith) in
        free _ refl refl (under _ (omega arith) (omega (arith, ok.vertices)) places.vertex_count refl refl refl q (from_header_lem i left f))
    passes (bound i left f) h = record { in_range_lem = plain _ (ok.bound_low i (omega arith)) (ok.bound_high i (omega arith)) refl refl refl; ascending = loop_order i left f }
    passes end h = let z : ⊥ = omega arith in elim z [ ]

    good_from : (n : ℕ) {c : Field} → Used c → Good l n c
    good_from zero u = Good.none
    good_from (suc n) {c} u =
        by_bool (at_end c) Good.over
        (λ e. let h = leb-false rows.end c.row e in Good.on e (passes u h) (good_from n (next_used u h)))

    pub facts_done : (need : ℕ) × (check_fields l ≡ Ok need)
    facts_done = good_judged (good_from number_count edition) 0 0
