-- The best layout, of document 02: for up to eight functions a grouping into regions that fits and whose bound is least.
use Rattle.std.specs.Prelude.{ℕ, suc, ◌≤◌, ◌<◌, ◌≡◌, List, ◌⊎◌, length, get_or, eqb, Ok}
use Rattle.model.specs.declared.Problem.{Problem}
use Rattle.model.specs.declared.Bound.{Bound}
use Rattle.model.specs.declared.Best.{Best}
use Rattle.model.specs.Numbers.{table}
use Rattle.model.specs.Search.{lowest_below}
use Rattle.model.specs.Costs.{largest, how_many}
use Rattle.model.specs.Layouts.{region_of, judge_layout}
use Rattle.model.specs.Evictions.{NotBehind}
use Rattle.model.specs.Results.{BoundSays}

-- How many regions the functions before f have, where *regions are numbered by first appearance*.
unfoldable pub top : (ℕ → ℕ) → ℕ → ℕ
top region f = largest f (λ g. suc (region g))

-- A *grouping* of n functions: a layout that lists them all, each with a region of an earlier function or the next new number.
pub record Numbered (n : ℕ) (regions : List ℕ) : Type 0 where
  pub lists : length regions ≡ n
  pub next : (f : ℕ) → f < n → get_or regions f 0 ≤ top (λ g. get_or regions g 0) f

module _ (region : ℕ → ℕ) where
  -- The first function that has f's region.
  unfoldable pub leader : ℕ → ℕ
  leader f = lowest_below f (λ g. eqb (region g) (region f))

  -- The number of f's region by first appearance: how many regions appear before it.
  unfoldable pub appearance : ℕ → ℕ
  appearance f = how_many (leader f) (λ g. eqb (leader g) g)

-- A layout's own grouping: the same functions share a region, and regions are numbered by first appearance.
unfoldable pub grouping_of : Problem → List ℕ → List ℕ
grouping_of p layout = table p.function_count (appearance (region_of layout))

-- A layout *fits*: none of 11 to 13 applies.
abbrev pub Fits : Problem → List ℕ → Type 0
Fits p layout = judge_layout p layout ≡ Ok tt

-- A grouping with a bound and a need *ranks* before another or with it: a smaller bound; or an equal one and fewer bytes needed; or both equal, and the
-- smaller region at the first difference, or no difference.
abbrev pub Ranks : (bound need : ℕ) → List ℕ → (bound' need' : ℕ) → List ℕ → Type 0
Ranks bound need regions bound' need' regions' =
    (bound < bound') ⊎ ((bound ≡ bound') × ((need < need') ⊎ ((need ≡ need') × NotBehind regions regions')))

-- **Best**: a grouping that Bound accepts, with its need and its bound. Whatever layout Bound accepts, short or with other region numbers, the grouping
-- ranks before that layout's own or with it.
pub record BestIs (p : Problem) (regions : List ℕ) (best : Best) : Type 0 where
  pub numbered : Numbered p.function_count regions
  pub functions_are : best.functions ≡ p.function_count
  pub bound : Bound
  pub bounded : BoundSays p regions (Ok bound)
  pub need_is : best.need ≡ bound.need
  pub bound_is : best.bound ≡ bound.bound
  pub least : (layout : List ℕ) (b : Bound) → BoundSays p layout (Ok b) →
      Ranks best.bound.0 best.need.0 regions b.bound.0 b.need.0 (grouping_of p layout)
