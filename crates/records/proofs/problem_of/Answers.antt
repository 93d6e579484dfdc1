-- `problem_of` meets its contract: each list is what `items_of` or `loops_of` ensures, and the rest is read from its place.
use Rattle.records.proofs.Assembled.{assembled}
use Rattle.records.proofs.problem_of.Goals as goal

pub returns : goal.returns
returns c = assembled _ _ _ _ _ c.items_of.ensures c.items_of-2.ensures c.items_of-3.ensures c.loops_of.ensures
