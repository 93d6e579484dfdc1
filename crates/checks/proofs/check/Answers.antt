-- `check` meets its definition: the fields, then the graph, each on the good case of the one before.
use mathlib.Core.Path.{sym, refl}
use Rattle.std.proofs.lemmas.Result.{err_from_is_err_and}
use Rattle.facts.proofs.Facts.{field_facts}
use Rattle.checks.proofs.Stages.{bad_fields, after_graph_lem}
use Rattle.checks.proofs.check.Goals as goal

pub judge-requires : goal.judge-requires
judge-requires c = field_facts _ _ (sym c.in_ok-need.ensures)

pub returns-in_err-need : goal.returns-in_err-need
returns-in_err-need c =
    let p = err_from_is_err_and c.from_residual.result c.from_residual.ensures.1 in rw (p.1, p.2) (bad_fields _ _ c.in_err-need.ensures _ refl)

pub returns-in_err-judge : goal.returns-in_err-judge
returns-in_err-judge c =
    let p = err_from_is_err_and c.from_residual-in_err-judge.result c.from_residual-in_err-judge.ensures.1 in
    rw (p.1, p.2) (after_graph_lem _ _ c.in_ok-need.ensures _ refl _ c.in_err-judge.ensures _ refl)

pub returns : goal.returns
returns c = after_graph_lem _ _ c.in_ok-need.ensures _ refl _ c.in_ok-judge.ensures _ refl
