-- `judge_vertex` compares the vertex with the number of vertices.
use Rattle.model.specs.Numbers.{problem_of}
use Rattle.vertex_checks.proofs.Vertices.{known, unknown}
use Rattle.vertex_checks.proofs.judge_vertex.Goals as goal

pub returns-then-vertex-count : goal.returns-then-vertex-count
returns-then-vertex-count c = known (problem_of c.args.l.now) _ _ c.vertex_count-count.ensures c.if-vertex-count.true

pub returns : goal.returns
returns c = unknown (problem_of c.args.l.now) _ _ c.vertex_count-count.ensures c.if-vertex-count.false
