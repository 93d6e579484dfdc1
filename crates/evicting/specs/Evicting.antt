-- The lowest function that evicts, by a table of steps in which no vertex begins phase 1.
use Rattle.std.specs.Prelude.{ℕ, ◌≤◌, ◌<◌, ◌≡◌, List, ◌⊎◌}
use Rattle.model.specs.declared.Problem.{Problem}
use Rattle.model.specs.Numbers.{problem_of}
use Rattle.model.specs.Operations.{Checked}
use Rattle.model.specs.Costs.{function_of}
use Rattle.model.specs.Layouts.{region_of}
use Rattle.model.specs.Places.{most_functions}
use Rattle.regions.specs.Regions.{ListsAll}
use Rattle.ways.specs.Ways.{no_way, steps}

-- A function of a checked problem, with the regions of all.
pub record Sharing (l regions : List ℕ) (f : ℕ) : Type 0 where
  pub checked : Checked l
  pub listed : ListsAll (problem_of l) regions
  pub known : f < (problem_of l).function_count

module _ (p : Problem) (regions : List ℕ) (f : ℕ) (d : List ℕ) where
  -- u is of another function of the region, and a way leads on from it.
  pub record Comes (u : ℕ) : Type 0 where
    pub way : steps d u 1 < no_way
    pub other : function_of p u ≡ f → ⊥
    pub shares : region_of regions (function_of p u) ≡ region_of regions f

  abbrev pub Named : ℕ → ℕ → Type 0
  Named u r = ((r ≡ function_of p u) × Comes u) ⊎ ((r ≡ most_functions) × (Comes u → ⊥))

  -- Of the vertices below n.
  pub record Lowest (n r : ℕ) : Type 0 where
    pub one : (r ≡ most_functions) ⊎ ((u : ℕ) × (u < n) × (r ≡ function_of p u) × Comes u)
    pub least : (u : ℕ) → u < n → Comes u → r ≤ function_of p u
