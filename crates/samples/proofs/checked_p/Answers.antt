-- `checked_p` meets its contract: its numbers are those of P, by computing both.
use Prim.Native.Nat.{ℕ}
use mathlib.Core.Path.{refl, ◌∙◌}
use mathlib.Core.List.{[], ◌∷◌, zip_with, flat_map}
use Rattle.model.specs.Numbers.{numbers_in, Sized}
use Rattle.examples.specs.Problems.{padded, problem, checked_p}
use Rattle.samples.specs.Listed.{listed}
use Rattle.samples.proofs.Worked.{is_problem}
use Rattle.samples.proofs.checked_p.Goals as goal

sized : (scratchpad first second third : ℕ) → Sized (checked_p scratchpad (first ∷ second ∷ third ∷ []))
unfolding padded problem zip_with
sized scratchpad first second third = record { functions = refl; vertices = refl; edges = refl; loops = refl }

pub returns : goal.returns
unfolding listed numbers_in padded problem zip_with flat_map
returns c = c.problem.ensures ∙ is_problem (checked_p _ (_ ∷ _ ∷ _ ∷ [])) (sized _ _ _ _) _ refl
