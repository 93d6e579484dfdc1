use Rattle.numbers.proofs.Edition.{with_none, with_more, with_all}
use borrow.Author.Rules.{rules}
use Rattle.numbers.proofs.with_edition.Goals as goal

pub loop-i-init : goal.loop-i-init
loop-i-init c = with_none _ (search rules)

pub loop-i-preserved : goal.loop-i-preserved
loop-i-preserved c = with_more _ _ _ c.loop-i-test.true c.loop-i.invariant

pub returns : goal.returns
returns c = with_all _ _ _ c.loop-i-test.false c.loop-i.invariant
