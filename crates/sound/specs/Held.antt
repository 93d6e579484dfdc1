-- Which functions the regions may hold as a walk arrives at a vertex.
use Rattle.std.specs.Prelude.{ℕ, ◌≡◌, List, Some}
use Rattle.model.specs.Walks.{Walk}
use Rattle.model.specs.Runs.{held}

-- Some walk arrives at v with g held in its region.
abbrev pub Holds : (ℕ → ℕ) → (ℕ → ℕ) → (ℕ → ℕ → Type 0) → ℕ → ℕ → Type 0
Holds fn region Edge v g = (h : List ℕ) × Walk Edge v h × (held fn region (region g) h ≡ Some g)
