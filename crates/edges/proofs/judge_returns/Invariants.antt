-- `edges::judge_returns` refuses at the lowest loop that no edge returns to.
use lib.ListN.{length}
use Rattle.model.specs.Graph.{loop, no_return}
use Rattle.model.proofs.Search.{Searched}
use Rattle.lookup.specs.Lists.{edges_in, loops_in}
use Rattle.edges.proofs.judge_returns.Given as goal

abbrev pub invariant-loop-j : goal.invariant-loop-j
invariant-loop-j l = Searched (length (loops_in l.l)) (λ k. no_return (edges_in l.l) (loop (loops_in l.l) k)) l.j
