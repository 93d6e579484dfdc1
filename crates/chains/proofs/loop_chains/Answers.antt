use native.Mathlib.Omega.{arith}
use Rattle.chains.proofs.Checks.{facts, loop_range}
use Rattle.chains.proofs.LoopChains.{no_loops, one_loop, all_loops}
use Rattle.chains.proofs.loop_chains.Goals as goal

pub loop_count-count-requires : goal.loop_count-count-requires
loop_count-count-requires c = facts c.requires

pub loop_header-header-requires-clause-fact_1 : goal.loop_header-header-requires-clause-fact_1
loop_header-header-requires-clause-fact_1 c = facts c.requires

pub loop_last-last-requires-clause-fact_1 : goal.loop_last-last-requires-clause-fact_1
loop_last-last-requires-clause-fact_1 c = facts c.requires

pub loop-i-init : goal.loop-i-init
loop-i-init c = no_loops _

pub loop-i-preserved : goal.loop-i-preserved
loop-i-preserved c =
    one_loop _ (loop_range c.requires (omega arith) c.loop_header-header.ensures c.loop_last-last.ensures) c.loop-i.invariant c.overwrite.ensures

pub returns : goal.returns
returns c = all_loops _ (omega arith) c.loop-i.invariant
