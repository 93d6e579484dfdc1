-- Bound's answer is what its definition says, from the checks through 13 and the price.
use Prim.Native.Nat.{ℕ}
use Rattle.std.specs.Prelude.{Err, Ok, Result}
use Rattle.model.specs.declared.Bound.{Bound}
use mathlib.Core.Path.{◌≡◌}
use mathlib.Core.List.{List}
use mathlib.Core.Logic.{inl, inr}
use Rattle.model.specs.declared.Refusal.{Refusal}
use Rattle.model.specs.declared.Problem.{Problem}
use Rattle.model.specs.Verdicts.{judge_bound}
use Rattle.model.specs.Results.{BoundSays}
use Rattle.model.specs.Layouts.{region_of}
use Rattle.layout.proofs.Alike.{alike_bound, alike_past}
use Rattle.bound.specs.Priced.{Priced}

module _ (p : Problem) (layout : List ℕ) where
  pub refused_says : (x : Refusal) → judge_bound p layout ≡ Err x → BoundSays p layout (Err x)
  refused_says x e = inl e

  -- What regions cost, filled in, the layout costs.
  pub priced_alike : (regions : List ℕ) → region_of regions ≡ region_of layout → (r : Result Bound Refusal) → Priced p regions r → Priced p layout r
  priced_alike regions same (Ok b) is = alike_bound regions layout same p is
  priced_alike regions same (Err f) is = (is.0, alike_past regions layout same p is.1)

  pub priced_says : judge_bound p layout ≡ Ok tt → (r : Result Bound Refusal) → Priced p layout r → BoundSays p layout r
  priced_says good (Ok b) is = (good, is)
  priced_says good (Err f) is = inr (good, is.0, is.1)
