-- Where the bytes of a problem's numbers end: each number's stand behind those of the numbers before it.
use Prim.Native.Nat.{ℕ, zero, suc, ◌+◌}
use Rattle.std.specs.Prelude.{Ok}
use mathlib.Core.Path.{◌≡◌, refl, ap, ◌∙◌}
use mathlib.Core.List.{List}
use mathlib.Core.Bool.{false}
use native.Mathlib.Omega.{arith}
use lib.ListN.{length, get_or, length-append}
use borrow.Author.Tests.{leb-false}
use Rattle.model.specs.declared.Field.{Field}
use Rattle.model.specs.File.{at_end, next_field, edition_in, field_size, field_bytes, check_from, bytes_from}
use Rattle.model.proofs.Cases.{by_bool}
use Rattle.fields.proofs.OneField.{checked, bytes_over, bytes_on}
use Rattle.editions.proofs.Fields.{field_length}
use Rattle.facts.proofs.Good.{Good}
use Rattle.facts.proofs.Judging.{good_judged}
use Rattle.model.specs.Rows as rows

-- How many bytes the fields from c on take, where c has the number v.
pub length_on : (n : ℕ) (c : Field) (l : List ℕ) (v : ℕ) → at_end c ≡ false → get_or l c.place 0 ≡ v →
    length (bytes_from (suc n) c l) ≡ field_size (edition_in l) c v + length (bytes_from n (next_field c v) l)
length_on n c l v going here =
    rw (bytes_on n c l v going here) (omega (arith, length-append (field_bytes (edition_in l) c v) (bytes_from n (next_field c v) l), field_length (edition_in l) c v))

-- Judging ends where the bytes do.
pub judged_ends : (l : List ℕ) (end n at start : ℕ) (c : Field) → check_from n at start c l ≡ Ok end → end ≡ at + length (bytes_from n c l)
unfolding check_from bytes_from
judged_ends l end zero at start c o = let q : at ≡ end = cc in omega arith
judged_ends l end (suc n) at start c o =
    by_bool (at_end c)
    (λ e. let d : Ok at ≡ Ok end = rw e at o in let q : at ≡ end = cc in rw (bytes_over n c l e) (omega arith))
    (λ e. let p = checked l n at start end c (leb-false rows.end c.row e) o in
    omega (arith, judged_ends l end n _ _ _ p.1, length_on n c l _ e refl))

-- Good numbers pass the checks of writing, and the checks end where their bytes do.
pub good_ends : {l : List ℕ} {n : ℕ} {c : Field} → Good l n c → (at start : ℕ) → check_from n at start c l ≡ Ok (at + length (bytes_from n c l))
good_ends {l} {n} {c} good at start =
    let judged = good_judged good at start in
    judged.1 ∙ ap Ok (judged_ends l judged.0 n at start c judged.1)
