-- The greatest sum over all lawful walks, kept up to a cap.
use Rattle.std.specs.Prelude.{ℕ, ◌≤◌, ◌<◌, List, ◌∷◌}
use Rattle.model.specs.declared.Problem.{Problem}
use Rattle.model.specs.Walks.{last_vertex, Lawful, Greatest}

-- r is that sum, or it is the cap and some lawful walk's sum reaches the cap.
pub record GreatestCapped (p : Problem) (cap : ℕ) (f : List ℕ → ℕ) (r : ℕ) : Type 0 where
  pub below : r < cap → Greatest p f r
  pub at : cap ≤ r → (h : List ℕ) × Lawful p h × (cap ≤ f (last_vertex p ∷ h))
  pub most : r ≤ cap
