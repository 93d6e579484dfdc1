-- `bound` meets Bound's definition: the problem's own checks, and the rest on its numbers.
use mathlib.Core.Path.{refl, subst}
use Rattle.std.proofs.lemmas.Result.{err_from_is_err_and}
use Rattle.std.specs.Prelude.{Err}
use Rattle.model.specs.declared.Problem.{Problem}
use Rattle.model.specs.Results.{BoundSays}
use Rattle.model.specs.Outcomes.{bound_outcome}
use Rattle.model.proofs.Answers.{said_outcome}
use Rattle.checks.proofs.Opened.{same_problem, opened}
use Rattle.through13.proofs.Through13.{refused_early}
use Rattle.bound.proofs.Stages.{refused_says}
use Rattle.bound.proofs.bound.Goals as goal

both : {A B : Type 0} → A × B → record { bound_says : A; bounded : B }
both p = record { bound_says = p.0; bounded = p.1 }

pub returns-in_err-judge : goal.returns-in_err-judge
returns-in_err-judge c =
    let p = err_from_is_err_and c.from_residual.result c.from_residual.ensures.1 in
    rw (p.1, p.2) (both (said_outcome bound_outcome (BoundSays _ _) (Err _)
    (refused_says _ _ _ (refused_early _ _ _ c.numbers_of-numbers.ensures _ c.in_err-judge.ensures _ refl))))

pub bound_checked-requires : goal.bound_checked-requires
bound_checked-requires c =
    opened _ _ c.numbers_of-numbers.ensures _ c.in_ok-judge.ensures refl

pub returns : goal.returns
returns c =
    let layout = c.args.layout in both (said_outcome bound_outcome (BoundSays _ _) c.bound_checked.result
    (subst (λ (p : Problem). BoundSays p layout.now c.bound_checked.result)
    (same_problem _ _ c.numbers_of-numbers.ensures) c.bound_checked.ensures))
