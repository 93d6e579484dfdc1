-- The functions of a region, and for each function the others of its region, as words.
use Rattle.std.specs.Prelude.{ℕ, ◌<◌, ◌≡◌, List, ◌↔◌, length, get_or}
use Rattle.model.specs.declared.Problem.{Problem}
use Rattle.model.specs.Layouts.{region_of}
use Rattle.model.specs.Results.{Member}
use Rattle.model.specs.Places as places
use Rattle.model.specs.Limits as limits

-- Word r holds the functions below n of region r.
pub record Members (layout : List ℕ) (n : ℕ) (ws : List ℕ) : Type 0 where
  pub long : length ws ≡ limits.most_regions
  pub member : (r g : ℕ) → r < limits.most_regions → Member (get_or ws r 0) g ↔ ((g < n) × (region_of layout g ≡ r))

-- Word f holds the functions below n of its region but f, for each f below m.
pub record RivalsBelow (layout : List ℕ) (n m : ℕ) (ws : List ℕ) : Type 0 where
  pub long : length ws ≡ places.most_functions
  pub member : (f : ℕ) → f < m → (g : ℕ) → Member (get_or ws f 0) g ↔ ((f ≡ g → ⊥) × (g < n) × (region_of layout g ≡ region_of layout f))

module _ (p : Problem) (layout : List ℕ) where
  abbrev pub RivalTable : List ℕ → Type 0
  RivalTable ws = RivalsBelow layout p.function_count p.function_count ws
