use Prim.Native.Nat.{◌+◌}
use mathlib.Core.Path.{refl}
use native.Mathlib.Omega.{arith}
use Rattle.model.specs.Costs.{total}
use Rattle.model.specs.Charges.{first_loads}
use Rattle.regions.proofs.Sums.{turn, end, total_more}
use Rattle.early.specs.Early.{first_load}
use Rattle.early.proofs.Sizes.{loads_fit, loaded_first}
use Rattle.early.proofs.first_loads.Goals as goal

pub loop-f-init : goal.loop-f-init
unfolding total
loop-f-init c = record { within = omega arith; is = refl }

pub add-loads-requires : goal.add-loads-requires
add-loads-requires c = omega (arith, loads_fit _ c.requires _ c.loop-f.invariant (omega arith) c.first_load.ensures)

pub loop-f-preserved : goal.loop-f-preserved
loop-f-preserved c = turn ◌+◌ (total_more _) c.loop-f.invariant (omega arith) c.first_load.ensures c.add-loads.ensures

pub returns : goal.returns
unfolding first_loads first_load
returns c = loaded_first _ c.requires _ (end c.loop-f.invariant (omega arith))
