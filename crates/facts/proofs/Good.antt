-- What is good of a problem's numbers, from a field on: the number at each field is in range, and each item may follow the one before it. No position has a part in
-- it: good numbers are good wherever their bytes stand and however they are spelt. What reading leaves is good (Reading), judging passes good numbers and no others
-- (Judging), and all that is known of numbers rests on it (Facts).
use Prim.Native.Nat.{ℕ, zero, suc, ◌<◌}
use mathlib.Core.Path.{◌≡◌}
use mathlib.Core.List.{List}
use mathlib.Core.Bool.{true, false}
use native.Mathlib.Omega.{arith}
use lib.ListN.{get_or}
use borrow.Author.Tests.{leb-true, leb-false}
use Rattle.model.specs.declared.Field.{Field}
use Rattle.model.specs.File.{number_count, first_field, at_end, next_field, in_range}
use Rattle.fields.specs.Valid.{Valid}
use Rattle.fields.proofs.Steps.{Later, next_later, in_row}
use Rattle.fields.proofs.OneField.{Passed}
use Rattle.model.specs.Rows as rows

-- The field after c, at which l has a number.
abbrev pub next : List ℕ → Field → Field
next l c = next_field c (get_or l c.place 0)

-- The numbers of l are good at the fields from c on, at most n of them.
pub data Good (l : List ℕ) : ℕ → Field → Type 0 where
  none : {c : Field} → Good l zero c
  over : {n : ℕ} {c : Field} → at_end c ≡ true → Good l (suc n) c
  on : {n : ℕ} {c : Field} → at_end c ≡ false → Passed l c → Good l n (next l c) → Good l (suc n) c

-- The numbers of l are good at every field that they have.
abbrev pub GoodNumbers : List ℕ → Type 0
GoodNumbers l = Good l number_count first_field

-- A number in range leads on to a later field.
pub goes_later : (l : List ℕ) {c : Field} → Valid c → at_end c ≡ false → (v : ℕ) → in_range l c v ≡ true → Later c (next_field c v)
goes_later l {c} f going v range = next_later f v (leb-false rows.end c.row going) (in_row l c v range).1

-- The first of the fields, where there is one, and those after it.
pub good_first : {l : List ℕ} {n : ℕ} {c : Field} → Good l (suc n) c → c.row < rows.end → Passed l c × Good l n (next l c)
good_first {c} (Good.over e) h = absurd (omega (arith, leb-true rows.end c.row e))
good_first (Good.on e p more) h = (p, more)
