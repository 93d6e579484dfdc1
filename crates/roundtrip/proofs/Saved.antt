-- What edition 2 costs where every check cost is 0: a byte a function at least. So no such file is a shortest one.
use Prim.Native.Nat.{ℕ, zero, suc, ◌+◌, ◌≤◌, ◌<◌}
use mathlib.Core.Path.{◌≡◌, refl, sym, ap, ◌∙◌}
use mathlib.Core.List.{List}
use mathlib.Core.Bool.{false, cond}
use native.Mathlib.Omega.{arith}
use lib.ListN.{length, get_or, length-append}
use lib.Dec.{eqb, ltb, leb}
use borrow.Author.Tests.{eq-eqb, ne_eqb, leb-true, leb-false, lt-leb, le-ltb}
use Rattle.model.specs.declared.Field.{Field}
use Rattle.model.specs.Limits.{first_edition, second_edition}
use Rattle.model.specs.Spelling.{number_size, groups}
use Rattle.model.specs.Table.{bases, kinds, jumps}
use Rattle.model.specs.File.{first_field, next_field, edition_in, unwritten, field_size, bytes_from}
use Rattle.model.proofs.Cases.{by_same, by_order, true_not_false}
use Rattle.spelling.proofs.Laws.{size_pos, groups_length}
use Rattle.fields.specs.Valid.{Valid, field}
use Rattle.fields.proofs.Steps.{placed, after_count_lem, after_item_lem}
use Rattle.fields.proofs.OneField.{bytes_over}
use Rattle.fields.proofs.Editions.{check_row, first_unwritten, other_row, plainly_sized, size_unwritten}
use Rattle.facts.proofs.Good.{Good, goes_later, good_first}
use Rattle.roundtrip.specs.Files.{Padded}
use Rattle.roundtrip.proofs.Ends.{length_on}
use Rattle.model.specs.Places as places
use Rattle.model.specs.Rows as rows

-- How many check costs come from a field on, where there are `count` functions.
checks_from : ℕ → Field → ℕ
checks_from count c = cond (ltb c.row rows.size) count (cond (leb c.row rows.check) (c.left + 1) 0)

-- How many stand at it.
check_here : Field → ℕ
check_here c = cond (eqb c.row rows.check) 1 0

none_over : (count : ℕ) (c : Field) → rows.end ≤ c.row → checks_from count c ≡ 0
unfolding checks_from
none_over count c h = simp (le-ltb c.row rows.size (omega arith), lt-leb c.row rows.check (omega arith))

module _ (m : List ℕ) where
  abbrev count : ℕ
  count = get_or m places.function_count 0

  -- No check cost is passed over.
  counted : {c : Field} → Valid c → c.row < rows.end → checks_from count c ≤ check_here c + checks_from count (next_field c (get_or m c.place 0))
  unfolding checks_from check_here next_field bases kinds jumps
  counted Valid.edition h = omega arith
  counted Valid.scratchpad h = omega arith
  counted Valid.functions h = after_count_lem (λ (d : Field). count ≤ 0 + checks_from count d) _ _ (λ e. omega arith) (λ k. omega arith)
  counted (Valid.size i left f) h = omega arith
  counted (Valid.load i left f) h = omega arith
  counted (Valid.check i left f) h = after_item_lem (λ (d : Field). left + 1 ≤ 1 + checks_from count d) _ (λ e. omega arith) (λ k. omega arith)
  counted Valid.vertices h = omega arith
  counted (Valid.function i left f) h = omega arith
  counted (Valid.cost i left f) h = omega arith
  counted Valid.edges h = omega arith
  counted (Valid.from i left f) h = omega arith
  counted (Valid.to i left f) h = omega arith
  counted Valid.loops h = omega arith
  counted (Valid.header i left f) h = omega arith
  counted (Valid.last i left f) h = omega arith
  counted (Valid.bound i left f) h = omega arith
  counted Valid.end h = absurd (omega arith)

-- Edition 2 has a byte for every number.
all_written : (edition : ℕ) (c : Field) → edition ≡ second_edition → unwritten edition c ≡ false
all_written edition c e =
    by_same c.row rows.check
    (λ q. sym (check_row edition c q) ∙ ne_eqb edition first_edition (λ one. omega arith))
    (λ n. sym (other_row edition c n))

-- The numbers l of edition 1, and the same of edition 2.
module _ (l m : List ℕ) (one : edition_in l ≡ first_edition) (two : edition_in m ≡ second_edition) (same : (k : ℕ) → 0 < k → get_or l k 0 ≡ get_or m k 0) where
  -- A field of k groups in edition 2 has no more in edition 1, and a check cost has none.
  spared : (c : Field) (v k : ℕ) → number_size v ≤ k → field_size (edition_in l) c v + check_here c ≤ k
  unfolding check_here
  spared c v k enough =
      by_same c.row rows.check
      (λ q. rw (size_unwritten (edition_in l) c (first_unwritten (edition_in l) c q one) v, eq-eqb c.row rows.check q) (omega (arith, size_pos v)))
      (λ n. rw (plainly_sized (edition_in l) c n v, ne_eqb c.row rows.check n) (omega arith))

  over_row : {c : Field} → Valid c → places.end ≤ c.place → rows.end ≤ c.row
  over_row {c} f far = by_order c.row rows.end (λ h. absurd (omega (arith, (placed f h).place))) (λ h. h)

  saved : {n : ℕ} {c : Field} {b : List ℕ} → Valid c → 0 < c.place → places.end ≤ n + c.place → Good m n c → Padded m n c b →
      length (bytes_from n c l) + checks_from (count m) c ≤ length b
  unfolding bytes_from
  saved {c = c} f behind far good Padded.none = omega (arith, none_over (count m) c (over_row f (omega arith)))
  saved {c = c} f behind far good (Padded.over {n} e) =
      rw (bytes_over n c l e) (omega (arith, none_over (count m) c (leb-true rows.end c.row e)))
  saved {c = c} f behind far good (Padded.skip e t more) = true_not_false (sym t ∙ all_written (edition_in m) c two)
  saved {c = c} f behind far good (Padded.on {n} {rest = rest} k e t enough few more) =
      let v : ℕ = get_or m c.place 0 in
      let low : c.row < rows.end = leb-false rows.end c.row e in
      let (p, later) = good_first good low in
      let next = goes_later m f e v p.in_range_lem in
      let here = length_on n c l v e (same c.place behind) in
      let wide = length-append (groups k v) rest in
      omega (
        arith,
        groups_length k v,
        spared c v k enough,
        counted m f low,
        saved next.valid (omega (arith, next.higher)) (omega (arith, next.higher)) later more,
      )

  -- The whole file.
  pub saved_file : (n : ℕ) (s : List ℕ) → places.end ≤ n → Good m n first_field → Padded m n first_field s → length (bytes_from n first_field l) + count m ≤ length s
  unfolding next_field kinds checks_from number_size
  saved_file zero s far good padded = absurd (omega arith)
  saved_file (suc n) s far good (Padded.over e) = true_not_false (sym e)
  saved_file (suc n) s far good (Padded.skip e t more) = true_not_false (sym t ∙ all_written (edition_in m) first_field two)
  saved_file (suc n) s far good (Padded.on {rest = rest} k e t enough few more) =
      let v : ℕ = get_or m places.edition 0 in
      let (p, later) = good_first good (omega arith) in
      let size : field_size (edition_in l) first_field (edition_in l) ≡ 1 = plainly_sized (edition_in l) first_field (λ q. omega arith) (edition_in l) ∙ ap number_size one in
      let here = length_on n first_field l (edition_in l) e refl in
      let wide = length-append (groups k v) rest in
      omega (arith, groups_length k v, size_pos v, saved {n = n} {b = rest} Valid.scratchpad (omega arith) (omega arith) later more)
