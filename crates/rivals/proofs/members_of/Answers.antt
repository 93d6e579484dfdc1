use native.Mathlib.Omega.{arith}
use Rattle.lookup.proofs.Places.{facts, few_functions}
use Rattle.bits.proofs.Bits.{one_shl, with_members}
use Rattle.rivals.proofs.Gathered.{no_members, one_member, all_members}
use Rattle.rivals.proofs.members_of.Goals as goal

pub loop-f-init : goal.loop-f-init
loop-f-init c = no_members _

pub loop-f-preserved : goal.loop-f-preserved
loop-f-preserved c =
    let f = c.loop-f.f in
    one_member _ _ c.loop-f.invariant (omega (arith, c.region_of-region.ensures, c.requires.fact_2.known c.loop-f.f (omega arith))) c.region_of-region.ensures
    (rw (one_shl f (omega (arith, few_functions _ (facts _ c.requires.fact_1)))) (with_members _ f))

pub returns : goal.returns
returns c = all_members _ c.loop-f.invariant (omega arith) (omega arith)
