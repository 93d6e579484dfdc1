use Rattle.decimals.proofs.Storing.{storing_start, storing_next, stored}
use borrow.Author.Rules.{rules}
use Rattle.decimals.proofs.write_decimal.Goals as goal

pub loop-left-init : goal.loop-left-init
loop-left-init c = storing_start _ _ _ _ c.decimal_size-size.ensures

pub loop-left-preserved : goal.loop-left-preserved
loop-left-preserved c = storing_next _ _ _ _ _ _ c.loop-left.invariant c.loop-left-test.true

pub returns : goal.returns
returns c = record { room = search rules; stored = stored _ _ _ _ _ _ c.loop-left.invariant c.loop-left-test.false; behind = search rules }
