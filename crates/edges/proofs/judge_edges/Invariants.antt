-- `edges::judge_edges` answers with the lowest wrong edge, or with the loops that the edges return to.
use mathlib.Core.Path.{◌≡◌}
use lib.ListN.{length}
use Rattle.model.specs.Graph.{edge, wrong_edge}
use Rattle.model.proofs.Search.{Searched}
use Rattle.lookup.specs.Lists.{edges_in, loops_in}
use Rattle.edges.specs.Words.{returned_by}
use Rattle.edges.proofs.judge_edges.Given as goal

abbrev pub invariant-loop-i : goal.invariant-loop-i
invariant-loop-i l = Searched (length (edges_in l.l)) (λ k. wrong_edge (loops_in l.l) (edge (edges_in l.l) k)) l.i × (l.returned ≡ returned_by (edges_in l.l) l.around l.marks l.i)
