-- `entries::judge_vertices` refuses at the lowest vertex that lacks an edge.
use Rattle.model.specs.Graph.{lacks}
use Rattle.model.proofs.Search.{Searched}
use Rattle.lookup.specs.Lists.{vertices_in, edges_in}
use Rattle.entries.proofs.judge_vertices.Given as goal

abbrev pub invariant-loop-v : goal.invariant-loop-v
invariant-loop-v l = Searched (vertices_in l.l) (lacks (vertices_in l.l) (edges_in l.l)) l.v
