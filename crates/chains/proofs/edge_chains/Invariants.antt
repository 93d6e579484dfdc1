-- `chains::edge_chains` puts every edge before the chain of the vertex it leads to. The loop's invariant: the first i edges are in the table.
use Rattle.chains.proofs.EdgeChains.{EdgesIn}
use Rattle.chains.proofs.edge_chains.Given as goal

abbrev pub invariant-loop-i : goal.invariant-loop-i
invariant-loop-i l = EdgesIn l.l l.i l.edges
