-- Groupings by the region of each of the first n functions: which are alike, and their order.
use Rattle.std.specs.Prelude.{ℕ, ◌≤◌, ◌<◌, ◌≡◌, List, ◌⊎◌, get_or}
use Rattle.model.specs.Best.{top}

abbrev pub region_at : List ℕ → ℕ → ℕ
region_at regions f = get_or regions f 0

-- The same functions share a region under both.
pub record Alike (n : ℕ) (a b : ℕ → ℕ) : Type 0 where
  pub to : (f g : ℕ) → f < n → g < n → a f ≡ a g → b f ≡ b g
  pub from : (f g : ℕ) → f < n → g < n → b f ≡ b g → a f ≡ a g

-- Regions are numbered by first appearance.
abbrev pub Ordered : ℕ → (ℕ → ℕ) → Type 0
Ordered n a = (f : ℕ) → f < n → a f ≤ top a f

abbrev pub Agree : ℕ → (ℕ → ℕ) → (ℕ → ℕ) → Type 0
Agree n a b = (f : ℕ) → f < n → a f ≡ b f

-- a has the smaller region at the first difference.
pub record Less (n : ℕ) (a b : ℕ → ℕ) : Type 0 where
  pub place : ℕ
  pub inside : place < n
  pub agree : Agree place a b
  pub less : a place < b place

abbrev pub AtMost : ℕ → (ℕ → ℕ) → (ℕ → ℕ) → Type 0
AtMost n a b = Agree n a b ⊎ Less n a b
