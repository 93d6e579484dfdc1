-- Layouts: the region of each function, the bytes needed, and the refusals 11 to 13.
use Rattle.std.specs.Prelude.{ℕ, zero, suc, ◌-◌, List, [], ◌∷◌, ◌++◌, Bool, cond, not, length, get_or, eqb, ltb, Err, Ok}
use Rattle.model.specs.Refusals.{Verdict}
use Rattle.model.specs.declared.Refusal.TheVariants.{LayoutTooLong, UnknownRegion, ScratchpadTooSmall}
use Rattle.model.specs.declared.Problem.{Problem}
use Rattle.model.specs.Search.{lowest_below, exists_below}
use Rattle.model.specs.Graph.{and_then, broken}
use Rattle.model.specs.Costs.{size_of, total, largest}
use Rattle.model.specs.Limits.{most_regions}

-- Whether one of these functions has region r.
abbrev pub taken : List ℕ → ℕ → Bool
taken regions r = exists_below (length regions) (λ g. eqb r (get_or regions g 0))

-- The lowest region that none of these functions has.
unfoldable pub lowest_free : List ℕ → ℕ
lowest_free regions = lowest_below most_regions (λ r. not (taken regions r))

-- The region of f after the functions before it: what the layout lists, or else the lowest region that no earlier function has.
abbrev pub next_region : List ℕ → ℕ → List ℕ → ℕ
next_region layout f earlier = cond (ltb f (length layout)) (get_or layout f 0) (lowest_free earlier)

-- The regions of the first n functions. A problem's *filled-in layout* is that of all its functions.
unfoldable pub filled_in : List ℕ → ℕ → List ℕ
filled_in layout zero = []
filled_in layout (suc n) = filled_in layout n ++ (next_region layout n (filled_in layout n) ∷ [])

-- A layout gives each function a region.
unfoldable pub region_of : List ℕ → ℕ → ℕ
region_of layout f = next_region layout f (filled_in layout f)

-- The size of the largest function in a region, 0 if the region is not used.
unfoldable pub largest_in : Problem → List ℕ → ℕ → ℕ
largest_in p layout r = largest p.function_count (λ f. cond (eqb (region_of layout f) r) (size_of p f) 0)

-- The bytes that a layout needs: for each region used, the size of its largest function, all added.
unfoldable pub need_of : Problem → List ℕ → ℕ
need_of p layout = total most_regions (largest_in p layout)

-- 11, longer than the functions (their number).
abbrev pub judge_length : Problem → List ℕ → Verdict
judge_length p layout = cond (ltb p.function_count (length layout)) (Err (LayoutTooLong p.function_count)) (Ok tt)

-- 12, a region above 31 (lowest function).
abbrev pub judge_regions : Problem → List ℕ → Verdict
judge_regions p layout = broken p.function_count (λ f. ltb (most_regions - 1) (region_of layout f)) UnknownRegion

-- 13, it needs more than the scratchpad (bytes needed).
abbrev pub judge_need : Problem → ℕ → Verdict
judge_need p need = cond (ltb p.scratchpad.0 need) (Err (ScratchpadTooSmall need)) (Ok tt)

unfoldable pub judge_layout : Problem → List ℕ → Verdict
judge_layout p layout = and_then (judge_length p layout) (and_then (judge_regions p layout) (judge_need p (need_of p layout)))
