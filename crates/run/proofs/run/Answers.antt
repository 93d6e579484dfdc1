-- `run` meets Run's definition: the problem's own checks, and the rest on its numbers.
use mathlib.Core.Path.{refl}
use Rattle.std.proofs.lemmas.Result.{err_from_is_err_and}
use Rattle.model.specs.Outcomes.{run_outcome}
use Rattle.model.proofs.Answers.{equal_outcome}
use Rattle.checks.proofs.Opened.{same_problem, opened}
use Rattle.through13.proofs.Through13.{refused_early}
use Rattle.run.proofs.Stages.{of_same, not_begun}
use Rattle.run.proofs.run.Goals as goal

told : {A B C : Type 0} → A × (B × C) → record { value : A; held_after : B; result_value : C }
told p = record { value = p.0; held_after = p.1.0; result_value = p.1.1 }

pub returns-in_err-judge : goal.returns-in_err-judge
returns-in_err-judge c =
    let p = err_from_is_err_and c.from_residual.result c.from_residual.ensures.1 in
    rw (p.1, p.2) (told (equal_outcome run_outcome
    (not_begun _ _ _ _ _ (refused_early _ _ _ c.numbers_of-numbers.ensures _ c.in_err-judge.ensures _ refl))))

pub run_checked-requires : goal.run_checked-requires
run_checked-requires c =
    opened _ _ c.numbers_of-numbers.ensures _ c.in_ok-judge.ensures refl

pub returns : goal.returns
returns c = told (equal_outcome run_outcome (of_same _ _ _ _ _ (same_problem _ _ c.numbers_of-numbers.ensures) _ _ (c.run_checked.ensures.value, c.run_checked.ensures.held_after)))
