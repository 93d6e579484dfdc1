use native.Mathlib.Omega.{arith}
use Rattle.flow.proofs.Sweeps.{none_visited, one_visit, all_visited}
use Rattle.flow.proofs.sweep.Goals as goal

pub loop-u-init : goal.loop-u-init
loop-u-init g c = none_visited c.requires

pub visit-changed-requires : goal.visit-changed-requires
visit-changed-requires g c = record { underway = c.loop-u.invariant.underway; there = omega arith }

pub loop-u-preserved : goal.loop-u-preserved
loop-u-preserved g c = one_visit c.loop-u.invariant (omega arith) c.visit-changed.ensures

pub returns : goal.returns
returns g c = all_visited c.loop-u.invariant (omega arith)
