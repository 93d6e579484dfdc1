use mathlib.Core.Path.{refl}
use Rattle.bits.proofs.Steps.{no_word, one_word}
use Rattle.model.proofs.Cases.{all_done}
use Rattle.sets.proofs.InterferenceFlow.gain.Goals as goal

pub loop-f-init : goal.loop-f-init
loop-f-init c = no_word _ _ _

pub loop-f-preserved : goal.loop-f-preserved
loop-f-preserved c = one_word _ _ _ _ _ _ _ _ c.loop-f.invariant c.gain-changed.ensures

pub returns : goal.returns
returns c = rw (all_done _ _ _ c.loop-f.auto.f-end c.loop-f-test.false refl) at c.loop-f.invariant
