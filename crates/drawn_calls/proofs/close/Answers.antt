use mathlib.Core.Path.{refl}
use native.Mathlib.Omega.{arith}
use Rattle.drawn_calls.proofs.InPlace.{via_none, via_more, via_all}
use Rattle.drawn_calls.proofs.close.Goals as goal

pub loop-k-init : goal.loop-k-init
loop-k-init c = via_none _ _ _ (record { long = c.requires.fact_2; bit = λ f g h. refl })

pub loop-k-preserved : goal.loop-k-preserved
loop-k-preserved c = via_more _ _ _ _ _ c.loop-k-test.true c.loop-k.invariant c.let_through.ensures

pub returns : goal.returns
returns c = via_all _ _ _ _ (omega arith) c.loop-k-test.false c.loop-k.invariant
