use Prim.Native.Nat.{◌+◌}
use mathlib.Core.Path.{refl}
use native.Mathlib.Omega.{arith}
use Rattle.model.specs.Costs.{total}
use Rattle.model.specs.Layouts.{need_of}
use Rattle.regions.proofs.Sums.{turn, end, total_more}
use Rattle.regions.proofs.Most.{sum_high}
use Rattle.regions.proofs.need.Goals as goal

pub loop-size-init : goal.loop-size-init
unfolding total
loop-size-init c = record { within = omega arith; is = refl }

pub add-needed-requires : goal.add-needed-requires
add-needed-requires c =
    omega (arith, c.largest_sizes.ensures.item c.loop-size.size-index (omega arith), sum_high _ c.requires.fact_1 c.args.layout.now c.loop-size.size-index (omega arith))

pub loop-size-preserved : goal.loop-size-preserved
loop-size-preserved c =
    turn ◌+◌ (total_more _) c.loop-size.invariant (omega arith) (c.largest_sizes.ensures.item _ (omega arith)) c.add-needed.ensures

pub returns : goal.returns
unfolding need_of
returns c = end c.loop-size.invariant (omega arith)
