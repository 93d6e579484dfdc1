-- `interference` meets Interference's definition: the problem's own checks, and the rest on its numbers.
use mathlib.Core.Path.{refl}
use Rattle.std.specs.Prelude.{Err}
use Rattle.std.proofs.lemmas.Result.{err_from_is_err_and}
use Rattle.model.specs.Results.{InterferenceSays}
use Rattle.model.specs.Outcomes.{interference_outcome}
use Rattle.model.proofs.Answers.{said_outcome}
use Rattle.checks.proofs.Opened.{opened}
use Rattle.interference.proofs.Answers.{not_checked, own_says}
use Rattle.interference.proofs.interference.Goals as goal

both : {A B : Type 0} → A × B → record { interference_says : A; fills_words : B }
both p = record { interference_says = p.0; fills_words = p.1 }

pub returns-in_err-judge : goal.returns-in_err-judge
returns-in_err-judge c =
    let p = err_from_is_err_and c.from_residual.result c.from_residual.ensures.1 in
    rw (p.1, p.2) (both (said_outcome interference_outcome (InterferenceSays _ _ _) (Err _)
    (not_checked _ _ _ c.numbers_of-numbers.ensures _ c.in_err-judge.ensures _ refl)))

pub interference_checked-requires : goal.interference_checked-requires
interference_checked-requires c = opened _ _ c.numbers_of-numbers.ensures _ c.in_ok-judge.ensures refl

pub returns : goal.returns
returns c = both (said_outcome interference_outcome (InterferenceSays _ _ _) c.interference_checked.result
    (own_says _ _ _ c.numbers_of-numbers.ensures _ c.in_ok-judge.ensures _ c.interference_checked.result
    c.interference_checked.ensures))
