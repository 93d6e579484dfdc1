use mathlib.Core.Path.{refl}
use native.Mathlib.Omega.{arith}
use Rattle.std.proofs.lemmas.Result.{err_from_is_err_and}
use Rattle.model.proofs.Search.{start}
use Rattle.drawn_graphs.proofs.Stages.{graph_bad, graph_good, graphs_good}
use Rattle.drawn_graphs.proofs.judge_graphs.Goals as goal

pub loop-f-init : goal.loop-f-init
loop-f-init c = start _ _

pub judge_graph-requires : goal.judge_graph-requires
judge_graph-requires c = omega (arith, (c.function_count-count.ensures), c.requires)

pub returns-in_err-judge_graph : goal.returns-in_err-judge_graph
returns-in_err-judge_graph c =
    let p = err_from_is_err_and c.from_residual.result c.from_residual.ensures.1 in
    rw (p.1, p.2) (graph_bad _ _ c.loop-f.invariant (omega (arith, (c.function_count-count.ensures))) _ c.in_err-judge_graph.ensures _ refl)

pub loop-f-preserved : goal.loop-f-preserved
loop-f-preserved c =
    graph_good _ _ c.loop-f.invariant (omega (arith, (c.function_count-count.ensures))) _ c.in_ok-judge_graph.ensures refl

pub returns : goal.returns
returns c = graphs_good _ _ c.loop-f.invariant (omega (arith, (c.function_count-count.ensures)))
