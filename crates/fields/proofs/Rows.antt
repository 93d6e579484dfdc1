-- What holds of every row of the field table, by one search that is computed over them all.
use Prim.Native.Nat.{ℕ, ◌+◌, ◌<◌}
use mathlib.Core.Path.{◌≡◌, refl, ap, ◌∙◌}
use mathlib.Core.List.{List, []}
use lib.ListN.{get_or}
use lib.Dec.{leb}
use borrow.Author.Tests.{leb-false}
use Rattle.model.specs.Table.{limits, jumps, counts, greatest, jump, count_over}
use Rattle.model.specs.Search.{lowest_from}
use Rattle.model.proofs.Search.{none_below}
use Rattle.model.proofs.Lists.{get_or-table}
use Rattle.fields.specs.Rows.{entry, entries}
use Rattle.model.specs.Places as places
use Rattle.model.specs.Rows as rows

pub jump_below : (row : ℕ) → row < rows.end → jump row < rows.end + 1
unfolding jumps lowest_from
jump_below row h = leb-false (rows.end + 1) (jump row) (none_below rows.end (λ r. leb (rows.end + 1) (jump r)) refl row h)

pub count_below : (row : ℕ) → row < rows.end → count_over row < places.end
unfolding counts lowest_from
count_below row h = leb-false places.end (count_over row) (none_below rows.end (λ r. leb places.end (count_over r)) refl row h)

pub greatest_below : (row : ℕ) → row < rows.end → greatest row < 4294967296
unfolding limits lowest_from
greatest_below row h = leb-false 4294967296 (greatest row) (none_below rows.end (λ r. leb 4294967296 (greatest r)) refl row h)

-- A row of the table as the code has it.
pub row_entry : (t : List (List ℕ)) (row : ℕ) → t ≡ entries → row < rows.end + 1 → get_or t row [] ≡ entry row
unfolding entries
row_entry t row e h = ap (λ (x : List (List ℕ)). get_or x row []) e ∙ get_or-table (rows.end + 1) entry row [] h
