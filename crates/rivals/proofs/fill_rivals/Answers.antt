use native.Mathlib.Omega.{arith}
use Rattle.lookup.proofs.Places.{facts, few_functions}
use Rattle.rivals.proofs.Gathered.{no_rivals, one_rival, all_rivals}
use Rattle.rivals.proofs.fill_rivals.Goals as goal

pub loop-f-init : goal.loop-f-init
loop-f-init c = no_rivals _ c.requires.fact_3

pub loop-f-preserved : goal.loop-f-preserved
loop-f-preserved c =
    one_rival _ _ c.loop-f.invariant c.members_of.ensures (omega (arith, few_functions _ (facts _ c.requires.fact_1)))
    (omega (arith, c.region_of-region.ensures, c.requires.fact_2.known c.loop-f.f (omega arith))) c.region_of-region.ensures c.without.ensures

pub returns : goal.returns
returns c = all_rivals _ c.loop-f.invariant (omega arith) (omega arith)
