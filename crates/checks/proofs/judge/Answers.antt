-- `judge` is the verdict of the problem's checks.
use mathlib.Core.Path.{ap}
use Rattle.std.proofs.lemmas.Result.{err_from_is_err_and}
use Rattle.model.specs.Verdicts.{as_verdict}
use Rattle.checks.specs.Steps.{judge_numbers}
use Rattle.checks.proofs.judge.Goals as goal

pub returns-in_err-check : goal.returns-in_err-check
unfolding judge_numbers
returns-in_err-check c =
    let p = err_from_is_err_and c.from_residual.result c.from_residual.ensures.1 in rw (p.1, p.2) (ap as_verdict c.in_err-check.ensures)

pub returns : goal.returns
unfolding judge_numbers
returns c = ap as_verdict c.in_ok-check.ensures
