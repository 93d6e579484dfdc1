-- `eviction` meets Eviction's definition: the problem's own checks, and the rest on its numbers.
use Rattle.checks.proofs.Opened.{opened, same_problem}
use mathlib.Core.Path.{refl}
use Rattle.std.specs.Prelude.{Err}
use Rattle.std.proofs.lemmas.Result.{err_from_is_err_and}
use Rattle.through13.proofs.Through13.{refused_early}
use Rattle.eviction.proofs.Stages.{not_begun, of_same, with_outcome}
use Rattle.eviction.proofs.eviction.Goals as goal

told : {A B C : Type 0} → A × (B × C) → record { eviction_says : A; eviction_fits : B; evicted : C }
told p = record { eviction_says = p.0; eviction_fits = p.1.0; evicted = p.1.1 }

pub returns-in_err-judge : goal.returns-in_err-judge
returns-in_err-judge c =
    let p = err_from_is_err_and c.from_residual.result c.from_residual.ensures.1 in
    rw (p.1, p.2) (told (with_outcome _ _ _ _ _ (Err _)
    (not_begun _ _ _ _ _ (refused_early _ _ _ c.numbers_of-numbers.ensures _ c.in_err-judge.ensures _ refl))))

pub eviction_checked-requires : goal.eviction_checked-requires
eviction_checked-requires c =
    opened _ _ c.numbers_of-numbers.ensures _ c.in_ok-judge.ensures refl

pub returns : goal.returns
returns c = told (with_outcome _ _ _ _ _ c.eviction_checked.result
    (of_same _ _ _ _ _ _ (same_problem _ _ c.numbers_of-numbers.ensures) c.eviction_checked.result (c.eviction_checked.ensures.eviction_says, c.eviction_checked.ensures.eviction_fits)))
