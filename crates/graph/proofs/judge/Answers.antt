-- `graph::judge` is its definition: rules 7 to 9 on the good case of rule 6.
use mathlib.Core.Path.{refl, ◌∙◌}
use Rattle.std.proofs.lemmas.Result.{err_from_is_err_and}
use Rattle.model.specs.Graph.{graph_rules}
use Rattle.graph.proofs.Loops.{lent_loops}
use Rattle.edges.proofs.Rules.{stops, goes}
use Rattle.graph.proofs.judge.Goals as goal

pub returns-in_err-judge_vertices : goal.returns-in_err-judge_vertices
unfolding graph_rules
returns-in_err-judge_vertices c =
    let p = err_from_is_err_and c.from_residual.result c.from_residual.ensures.1 in rw (p.1, p.2) (stops _ c.in_err-judge_vertices.ensures refl)

pub judge_lent-requires : goal.judge_lent-requires
judge_lent-requires c =
    let ok = c.requires in
    (ok, lent_loops _ ok c.loops_of.ensures c.loop_count.ensures)

pub returns : goal.returns
unfolding graph_rules
returns c =
    c.judge_lent.ensures ∙ goes _ c.in_ok-judge_vertices.ensures refl
