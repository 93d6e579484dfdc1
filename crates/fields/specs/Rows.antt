-- The field table row by row, as the code has it.
use Rattle.std.specs.Prelude.{ℕ, ◌+◌, List, [], ◌∷◌}
use Rattle.model.specs.Numbers.{table}
use Rattle.model.specs.Table.{least, greatest, base, kind, jump, count_over}
use Rattle.model.specs.Rows as rows

-- How many columns a row has.
abbrev pub columns : ℕ
columns = 6

abbrev pub entry : ℕ → List ℕ
entry row = least row ∷ greatest row ∷ base row ∷ kind row ∷ jump row ∷ count_over row ∷ []

-- The rows, and the end of the file.
unfoldable pub entries : List (List ℕ)
entries = table (rows.end + 1) entry
