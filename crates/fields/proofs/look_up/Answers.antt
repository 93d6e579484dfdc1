-- `look_up` is an entry of the table that it is lent.
use Prim.Native.Nat.{ℕ}
use mathlib.Core.Path.{ap}
use mathlib.Core.List.{List}
use lib.ListN.{get_or}
use Rattle.fields.proofs.Rows.{row_entry}
use Rattle.fields.proofs.look_up.Goals as goal

pub returns : goal.returns
returns c = ap (λ (e : List ℕ). get_or e c.args.column 0) (row_entry _ _ c.requires.table_value c.requires.row_bound)
