-- `checked_q` meets its contract: its numbers are those of Q, by computing both.
use Prim.Native.Nat.{ℕ}
use mathlib.Core.Path.{refl, ◌∙◌}
use mathlib.Core.List.{[], ◌∷◌, zip_with, flat_map}
use Rattle.model.specs.Numbers.{numbers_in, Sized}
use Rattle.examples.specs.Problems.{padded, problem, checked_q}
use Rattle.samples.specs.Listed.{listed}
use Rattle.samples.proofs.Worked.{is_problem}
use Rattle.samples.proofs.checked_q.Goals as goal

sized : (first second : ℕ) → Sized (checked_q (1 ∷ 1 ∷ []) (first ∷ second ∷ []))
unfolding padded problem zip_with
sized first second = record { functions = refl; vertices = refl; edges = refl; loops = refl }

pub returns : goal.returns
unfolding listed numbers_in padded problem zip_with flat_map
returns c = c.problem.ensures ∙ is_problem (checked_q (1 ∷ 1 ∷ []) (_ ∷ _ ∷ [])) (sized _ _) _ refl
