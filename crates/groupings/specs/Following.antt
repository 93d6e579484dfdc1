-- The grouping that follows another in order: its last region that can be raised is, and zeros stand behind it.
use Rattle.std.specs.Prelude.{ℕ, suc, ◌≤◌, ◌<◌, ◌≡◌, List, Bool, true, false, ◌⊎◌, length, get_or}
use Rattle.model.specs.Limits.{most_grouped}
use Rattle.model.specs.Best.{top}
use Rattle.groupings.specs.Order.{region_at, Ordered, Agree}

pub record Follows (n : ℕ) (a b : ℕ → ℕ) : Type 0 where
  pub place : ℕ
  pub inside : place < n
  pub room : a place < top a place
  pub last : (f : ℕ) → place < f → f < n → top a f ≤ a f
  pub below : Agree place b a
  pub raised : b place ≡ suc (a place)
  pub zeros : (f : ℕ) → place < f → f < n → b f ≡ 0

-- No region can be raised: the grouping is the last.
abbrev pub Final : ℕ → (ℕ → ℕ) → Type 0
Final n a = (f : ℕ) → f < n → top a f ≤ a f

-- A grouping of n functions in front of the places for eight.
pub record Ready (n : ℕ) (l : List ℕ) : Type 0 where
  pub few : n ≤ most_grouped
  pub size : length l ≡ most_grouped
  pub ordered : Ordered n (region_at l)

-- Of the first i functions, `place` is the last whose region can be raised; or it is n, and none can.
abbrev pub Raisable : ℕ → (ℕ → ℕ) → ℕ → ℕ → Type 0
Raisable n a i place =
    ((place ≡ n) × ((f : ℕ) → f < i → top a f ≤ a f))
    ⊎ ((place < i) × (a place < top a place) × ((f : ℕ) → place < f → f < i → top a f ≤ a f))

-- Zeros from one place up to another; the other places keep their values.
pub record Cleared (from n : ℕ) (before after : List ℕ) : Type 0 where
  pub size : length after ≡ length before
  pub below : (f : ℕ) → f < from → get_or after f 0 ≡ get_or before f 0
  pub zeros : (f : ℕ) → from ≤ f → f < n → get_or after f 0 ≡ 0

-- The next grouping; or, after the last one, no change.
pub record Followed (n : ℕ) (before after : List ℕ) (more : Bool) : Type 0 where
  pub size : length after ≡ most_grouped
  pub next : more ≡ true → Follows n (region_at before) (region_at after)
  pub end : more ≡ false → Final n (region_at before) × (after ≡ before)
