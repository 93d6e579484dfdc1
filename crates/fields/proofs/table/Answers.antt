-- `table` is the constant table, whose rows are the definition's.
use mathlib.Core.Path.{refl}
use Rattle.model.specs.Numbers.{table_from}
use Rattle.model.specs.Table.{limits, bases, kinds, jumps, counts}
use Rattle.fields.specs.Rows.{entries}
use Rattle.fields.proofs.table.Goals as goal

pub returns : goal.returns
unfolding entries table_from limits bases kinds jumps counts
returns c = refl
