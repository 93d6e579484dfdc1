-- A problem's checks, stage by stage: what `check` returns is what the definition says for the stage that it stops at.
use Prim.Native.Nat.{ℕ}
use Rattle.std.specs.Prelude.{Err, Ok, Result}
use Rattle.model.specs.Refusals.{Verdict}
use mathlib.Core.Path.{◌≡◌, sym, ap, ◌∙◌}
use mathlib.Core.List.{List}
use Rattle.model.specs.declared.Refusal.{Refusal}
use Rattle.model.specs.Numbers.{problem_of}
use Rattle.model.specs.File.{check_fields}
use Rattle.model.specs.Graph.{judge_graph}
use Rattle.model.specs.Operations.{after_graph, after_fields}
use Rattle.checks.specs.Steps.{check_numbers}

-- A problem's checks, where the fields gave the answer f.
module _ (l : List ℕ) (f : Result ℕ Refusal) (is : f ≡ check_fields l) where
  checks : (g : Result ℕ Refusal) → f ≡ g → after_fields g (problem_of l) ≡ check_numbers l
  unfolding check_numbers
  checks g e = ap (λ (x : Result ℕ Refusal). after_fields x (problem_of l)) (sym e ∙ is)

  pub bad_fields : (r : Refusal) → f ≡ Err r → f ≡ check_numbers l
  bad_fields r e = e ∙ checks _ e

  pub after_graph_lem : (need : ℕ) → f ≡ Ok need → (v : Verdict) → v ≡ judge_graph (problem_of l) → (w : Verdict) → v ≡ w → after_graph w need ≡ check_numbers l
  after_graph_lem need e v judged w q = ap (λ (x : Verdict). after_graph x need) (sym q ∙ judged) ∙ checks _ e
