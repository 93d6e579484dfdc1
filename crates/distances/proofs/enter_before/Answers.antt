use Prim.Native.Nat.{◌-◌}
use native.Mathlib.Omega.{arith}
use Rattle.chains.proofs.Chains.{link_less}
use Rattle.distances.proofs.Along.{along_none, along_next, along_more, along_all}
use Rattle.distances.proofs.enter_before.Goals as goal

both : {A B : Type 0} → A × B → record { fact_1 : A; fact_2 : B }
both p = record { fact_1 = p.0; fact_2 = p.1 }

pub loop-next-init : goal.loop-next-init
loop-next-init c = along_none c.requires.fact_1 c.requires.fact_2

pub enter_start-last-requires : goal.enter_start-last-requires
enter_start-last-requires c = both (along_next _ (omega arith) c.requires.fact_3 c.loop-next.invariant)

pub loop-next-smaller : goal.loop-next-smaller
loop-next-smaller c =
    omega (arith, link_less c.requires.fact_1 (c.loop-next.next - 1) (omega (arith, c.loop-next.invariant.within)))

pub loop-next-preserved : goal.loop-next-preserved
loop-next-preserved c =
    along_more c.requires.fact_1 _ (omega arith) c.loop-next.invariant c.enter_start-last.ensures

pub returns : goal.returns
returns c = along_all c.loop-next-test.false c.loop-next.invariant
