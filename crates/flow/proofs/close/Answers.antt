use native.Mathlib.Omega.{arith}
use Rattle.flow.proofs.Sweeps.{not_begun, swept_on, at_rest, falls}
use Rattle.flow.proofs.close.Goals as goal

pub loop-changed-init : goal.loop-changed-init
loop-changed-init g c = not_begun _ c.requires.checked c.requires.starts c.requires.long c.requires.sound

pub sweep-changed-requires : goal.sweep-changed-requires
sweep-changed-requires g c = c.loop-changed.invariant.underway

pub loop-changed-smaller : goal.loop-changed-smaller
loop-changed-smaller g c = falls c.loop-changed-test.true c.sweep-changed.ensures (λ i. omega (arith, c.type_inv.words i))

pub loop-changed-preserved : goal.loop-changed-preserved
loop-changed-preserved g c = swept_on c.loop-changed.invariant c.sweep-changed.ensures

pub returns : goal.returns
returns g c = at_rest c.loop-changed.invariant c.loop-changed-test.false
