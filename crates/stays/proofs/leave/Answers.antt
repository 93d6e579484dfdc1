use native.Mathlib.Omega.{arith}
use Rattle.chains.proofs.Checks.{facts, loop_range}
use Rattle.chains.proofs.Chains.{link_less}
use Rattle.stays.proofs.Leaving.{left_start, left_stop, left_more, left_all}
use Rattle.stays.proofs.leave.Goals as goal

pub loop-next-init : goal.loop-next-init
loop-next-init c = left_start _ _ _ _ c.requires.fact_2 c.requires.fact_4

pub loop_header-header-requires-clause-fact_1 : goal.loop_header-header-requires-clause-fact_1
loop_header-header-requires-clause-fact_1 c = facts c.requires.fact_1

pub loop_last-requires-clause-fact_1 : goal.loop_last-requires-clause-fact_1
loop_last-requires-clause-fact_1 c = facts c.requires.fact_1

pub returns-then-range_holds : goal.returns-then-range_holds
returns-then-range_holds c =
    left_stop _ _ _ _ (loop_range c.requires.fact_1 (omega arith) c.loop_header-header.ensures c.loop_last.ensures) (omega arith) c.loop-next.invariant c.range_holds.ensures c.if-range_holds.true

pub capped_sum-sum-requires : goal.capped_sum-sum-requires
capped_sum-sum-requires c = (omega arith, c.requires.fact_3.most _)

pub loop-next-smaller : goal.loop-next-smaller
loop-next-smaller c =
    omega (arith, link_less c.requires.fact_2 _ (loop_range c.requires.fact_1 (omega arith) c.loop_header-header.ensures c.loop_last.ensures).below)

pub loop-next-preserved : goal.loop-next-preserved
loop-next-preserved c =
    left_more _ _ _ _ (loop_range c.requires.fact_1 (omega arith) c.loop_header-header.ensures c.loop_last.ensures) (omega arith) c.loop-next.invariant c.range_holds.ensures c.requires.fact_2
    c.if-range_holds.false c.capped_sum-sum.ensures

pub returns : goal.returns
returns c = left_all _ _ _ _ (omega arith) c.loop-next.invariant
