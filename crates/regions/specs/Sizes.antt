-- The largest sizes of the regions, as a table.
use Rattle.std.specs.Prelude.{ℕ, ◌<◌, max, ◌≡◌, List, cond, length, get_or, eqb}
use Rattle.model.specs.declared.Problem.{Problem}
use Rattle.model.specs.Limits.{most_regions}
use Rattle.model.specs.Layouts.{largest_in}

-- The table with one size more, in its region.
pub record Enlarged (sizes : List ℕ) (region size : ℕ) (after : List ℕ) : Type 0 where
  pub long : length after ≡ most_regions
  pub item : (r : ℕ) → r < most_regions → get_or after r 0 ≡ max (get_or sizes r 0) (cond (eqb region r) size 0)

pub record LargestSizes (p : Problem) (layout sizes : List ℕ) : Type 0 where
  pub long : length sizes ≡ most_regions
  pub item : (r : ℕ) → r < most_regions → get_or sizes r 0 ≡ largest_in p layout r
