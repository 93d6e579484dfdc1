-- `judge_graph` says of the used numbers what the checks say of the graph.
use mathlib.Core.Path.{◌≡◌, ap, ◌∙◌}
use Rattle.std.proofs.Common.{rules}
use Rattle.model.specs.Inlined.{placed_in}
use Rattle.drawn_graphs.proofs.Graphs.{used_judged}
use Rattle.drawn_graphs.proofs.judge_graph.Goals as goal

pub returns : goal.returns
returns c =
    let placed : c.map_err.result ≡ placed_in c.args.f c.judge.result = search rules in
    placed ∙ ap (placed_in c.args.f) (used_judged _ _ _ c.fill_graph.ensures _ c.judge.ensures)
