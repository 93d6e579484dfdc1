use native.Mathlib.Omega.{arith}
use Rattle.chains.proofs.Checks.{facts}
use Rattle.chains.proofs.EdgeChains.{no_edges, one_edge, all_edges}
use Rattle.chains.proofs.edge_chains.Goals as goal

pub edge_count-count-requires : goal.edge_count-count-requires
edge_count-count-requires c = facts c.requires

pub edge_to-to-requires-clause-fact_1 : goal.edge_to-to-requires-clause-fact_1
edge_to-to-requires-clause-fact_1 c = facts c.requires

pub loop-i-init : goal.loop-i-init
loop-i-init c = no_edges _

pub loop-i-preserved : goal.loop-i-preserved
loop-i-preserved c = one_edge _ c.requires (omega arith) c.edge_to-to.ensures c.loop-i.invariant

pub returns : goal.returns
returns c = all_edges _ (omega arith) c.loop-i.invariant
