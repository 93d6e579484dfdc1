-- Filling in a layout, function by function. The regions in use are a word whose bits are their numbers.
use Rattle.std.specs.Prelude.{ℕ, ◌≤◌, ◌<◌, ◌≡◌, List, ◌||◌, length, get_or, take, eqb}
use Rattle.model.specs.Limits.{most_regions}
use Rattle.model.specs.Places.{most_functions}
use Rattle.model.specs.Layouts.{taken, filled_in, region_of}
use Rattle.bits.specs.Tests.{has}

-- A word with one region more.
abbrev pub WithRegion : ℕ → ℕ → ℕ → Type 0
WithRegion used region after = (r : ℕ) → r < most_regions → has after r ≡ (has used r || eqb r region)

-- The first f functions have their regions, and these are in use.
pub record Filling (layout : List ℕ) (f : ℕ) (regions : List ℕ) (used : ℕ) : Type 0 where
  pub long : length regions ≡ most_functions
  pub item : (g : ℕ) → g < f → get_or regions g 0 ≡ region_of layout g
  pub in_use : (r : ℕ) → r < most_regions → has used r ≡ taken (filled_in layout f) r

-- The first n regions are those of the layout filled in for n functions.
pub record FilledFront (layout : List ℕ) (n : ℕ) (regions : List ℕ) : Type 0 where
  pub room : n ≤ length regions
  pub front : take n regions ≡ filled_in layout n
