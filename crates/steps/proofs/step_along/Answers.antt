-- `step_along` tells by the ends of an edge whether it stays in a loop.
use borrow.Author.Tests.{le-leb, lt-leb}
use Rattle.steps.proofs.step_along.Goals as goal

pub returns-then-to-from : goal.returns-then-to-from
returns-then-to-from c = rw (le-leb _ _ c.if-to-from.true)

pub returns : goal.returns
returns c = rw (lt-leb _ _ c.if-to-from.false)
