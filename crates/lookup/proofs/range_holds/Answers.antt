-- `lookup::range_holds` is its definition: the range's header decides whether its last does.
use borrow.Author.Tests.{le-leb, lt-leb}
use Rattle.lookup.proofs.range_holds.Goals as goal

pub returns-then-header-v : goal.returns-then-header-v
returns-then-header-v c = rw (le-leb _ _ c.if-header-v.true)

pub returns : goal.returns
returns c = rw (lt-leb _ _ c.if-header-v.false)
