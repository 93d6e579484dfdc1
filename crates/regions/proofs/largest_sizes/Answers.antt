use native.Mathlib.Omega.{arith}
use Rattle.lookup.proofs.Places.{facts}
use Rattle.regions.proofs.Sizes.{none_sized, one_sized, all_sized}
use Rattle.regions.proofs.largest_sizes.Goals as goal

pub loop-f-init : goal.loop-f-init
loop-f-init c = none_sized _ _

pub size_of-requires : goal.size_of-requires
size_of-requires c = record { fact_1 = facts _ c.requires.fact_1; fact_2 = omega arith }

pub loop-f-preserved : goal.loop-f-preserved
loop-f-preserved c =
    one_sized _ _ c.loop-f.invariant (omega arith) c.region_of.ensures c.size_of.ensures c.enlarge.ensures

pub returns : goal.returns
returns c = all_sized _ _ c.loop-f.invariant (omega arith)
