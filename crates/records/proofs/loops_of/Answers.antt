-- `loops_of` meets its contract: the items from the first header on are the loops that the numbers say.
use mathlib.Core.Path.{◌∙◌}
use Rattle.records.proofs.Assembled.{loops_read}
use Rattle.records.proofs.loops_of.Goals as goal

pub returns : goal.returns
returns c = c.items_of.ensures ∙ loops_read _
