-- Judging numbers as they would be written passes good numbers and no others, wherever it places them.
use Prim.Native.Nat.{ℕ, zero, suc, ◌+◌}
use Rattle.std.specs.Prelude.{Ok}
use mathlib.Core.Path.{◌≡◌, refl}
use mathlib.Core.List.{List}
use lib.ListN.{get_or}
use borrow.Author.Tests.{leb-false}
use Rattle.model.specs.declared.Field.{Field}
use Rattle.model.specs.File.{number_count, first_field, at_end, edition_in, field_size, item_start, check_from, check_fields}
use Rattle.model.proofs.Cases.{by_bool}
use Rattle.fields.proofs.OneField.{checked}
use Rattle.facts.proofs.Good.{Good, GoodNumbers}
use Rattle.model.specs.Rows as rows

pub judged_good : (l : List ℕ) (end n at start : ℕ) (c : Field) → check_from n at start c l ≡ Ok end → Good l n c
judged_good l end zero at start c o = Good.none
judged_good l end (suc n) at start c o =
    by_bool (at_end c) Good.over
    (λ e. let p = checked l n at start end c (leb-false rows.end c.row e) o in Good.on e p.0 (judged_good l end n _ _ _ p.1))

pub good_judged : {l : List ℕ} {n : ℕ} {c : Field} → Good l n c → (at start : ℕ) → (end : ℕ) × (check_from n at start c l ≡ Ok end)
unfolding check_from
good_judged Good.none at start = (at, refl)
good_judged (Good.over e) at start = (at, simp e)
good_judged {l} {c} (Good.on e p more) at start =
    let rest = good_judged more (at + field_size (edition_in l) c (get_or l c.place 0)) (item_start c at start) in
    (rest.0, simp (e, p.in_range_lem, p.ascending) rest.1)

-- Numbers that pass the checks of writing are good.
pub checked_good : (l : List ℕ) (end : ℕ) → check_fields l ≡ Ok end → GoodNumbers l
checked_good l end ok = judged_good l end number_count 0 0 first_field ok
