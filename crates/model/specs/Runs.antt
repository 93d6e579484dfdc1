-- Interference and charges: a run. It starts with all regions empty; each visit finds the regions as the visits before left them.
use Rattle.std.specs.Prelude.{ℕ, ◌+◌, List, [], ◌∷◌, Bool, false, cond, eqb, Option, Some, None}
use Rattle.model.specs.declared.Problem.{Problem}
use Rattle.model.specs.Costs.{function_of, own_cost, load_cost, check_cost}
use Rattle.model.specs.Layouts.{region_of}

module _ (fn : ℕ → ℕ) (region : ℕ → ℕ) where
  -- The function that region r holds after a history, if any: that of the latest visit to a function of the region.
  unfoldable pub held : ℕ → List ℕ → Option ℕ
  held r [] = None
  held r (v ∷ h) = cond (eqb (region (fn v)) r) (Some (fn v)) (held r h)

  abbrev pub is_held : Option ℕ → ℕ → Bool
  is_held None f = false
  is_held (Some g) f = eqb g f

  -- After h, a visit to v finds its function held in its region.
  abbrev pub hit : ℕ → List ℕ → Bool
  hit v h = is_held (held (region (fn v)) h) (fn v)

module _ (fn check : ℕ → ℕ) where
  -- The *region check* (9/14): a run pays a function's check cost on its first visit, and on each visit that comes from another function.
  unfoldable pub check_at : ℕ → List ℕ → ℕ
  check_at v [] = check (fn v)
  check_at v (u ∷ h) = cond (eqb (fn u) (fn v)) 0 (check (fn v))

module _ (p : Problem) (layout : List ℕ) where
  -- *Simulated cycles*: a visit costs its own cost, plus its region check, plus the load cost if its function is not the one held in its region.
  unfoldable pub cycles : List ℕ → ℕ
  cycles [] = 0
  cycles (v ∷ h) =
      cycles h
      + (own_cost p v + check_at (function_of p) (check_cost p) v h + cond (hit (function_of p) (region_of layout) v h) 0 (load_cost p (function_of p v)))

  -- Loads, counted as they occur.
  unfoldable pub loads : List ℕ → ℕ
  loads [] = 0
  loads (v ∷ h) = loads h + cond (hit (function_of p) (region_of layout) v h) 0 1

  -- The function held in a region afterwards, 255 for none.
  abbrev pub held_number : Option ℕ → ℕ
  held_number None = 255
  held_number (Some f) = f

  unfoldable pub held_after : List ℕ → ℕ → ℕ
  held_after h r = held_number (held (function_of p) (region_of layout) r h)
