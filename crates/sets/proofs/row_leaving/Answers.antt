use mathlib.Core.Path.{refl}
use Rattle.sets.proofs.Flow.{no_leaving, one_leaving}
use Rattle.model.proofs.Cases.{all_done}
use Rattle.sets.proofs.row_leaving.Goals as goal

pub loop-f-init : goal.loop-f-init
loop-f-init c = no_leaving _ _ _

pub loop-f-preserved : goal.loop-f-preserved
loop-f-preserved c = one_leaving _ c.loop-f-test.true c.loop-f.invariant c.brought.ensures

pub returns : goal.returns
returns c = rw (all_done _ _ _ c.loop-f.auto.f-end c.loop-f-test.false refl) at c.loop-f.invariant
