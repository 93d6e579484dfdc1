-- What a layout that is filled in, and not refused, gives to every function.
use Rattle.std.specs.Prelude.{ℕ, ◌≤◌, ◌<◌, List, length}
use Rattle.model.specs.declared.Problem.{Problem}
use Rattle.model.specs.Limits.{most_regions}
use Rattle.model.specs.Layouts.{region_of}

-- No function is left off the layout.
abbrev pub ListsAll : Problem → List ℕ → Type 0
ListsAll p layout = p.function_count ≤ length layout

-- Every function is listed with one of the regions.
pub record KnownRegions (p : Problem) (layout : List ℕ) : Type 0 where
  pub listed : ListsAll p layout
  pub known : (f : ℕ) → f < p.function_count → region_of layout f < most_regions
