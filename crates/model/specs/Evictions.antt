-- Eviction, of document 02: why a vertex pays its load, and the shortest walk that shows it.
use Rattle.std.specs.Prelude.{ℕ, ◌≤◌, ◌<◌, ◌≡◌, false, ◌⊎◌, length}
use mathlib.Core.List.{List, [], ◌∷◌, reverse, Memᴰ}
use Rattle.model.specs.declared.Reason.{Reason}
use Rattle.model.specs.declared.Reason.TheVariants.{EveryVisit, FirstLoad, Never}
use Rattle.model.specs.declared.Problem.{Problem}
use Rattle.model.specs.Costs.{function_of}
use Rattle.model.specs.Walks.{EdgeOf, Walk}
use Rattle.model.specs.Layouts.{region_of}
use Rattle.model.specs.Interference.{since, occurs, Interferes, Contested, Fresh, Early}

-- A reason's number, and its values: the function named.
abbrev pub reason_number : Reason → ℕ
reason_number (EveryVisit g) = 1
reason_number FirstLoad = 2
reason_number Never = 3

abbrev pub reason_values : Reason → List ℕ
reason_values (EveryVisit g) = g ∷ []
reason_values FirstLoad = []
reason_values Never = []

-- Of two walks, or lists of regions, with as many entries the first is not behind: they are equal, or it has the smaller number at the first difference.
abbrev pub NotBehind : List ℕ → List ℕ → Type 0
NotBehind [] ys = Unit {0}
NotBehind (x ∷ xs) [] = ⊥
NotBehind (x ∷ xs) (y ∷ ys) = (x < y) ⊎ ((x ≡ y) × NotBehind xs ys)

-- Fewer entries, or as many and not behind.
abbrev pub Ahead : List ℕ → List ℕ → Type 0
Ahead xs ys = (length xs < length ys) ⊎ ((length xs ≡ length ys) × NotBehind xs ys)

-- Of all walks that arrive at v after good histories, this is the one with the fewest entries, then with the smallest number at the first difference. It is
-- in its own order: vertex 0 first, v last. Loop bounds play no part.
pub record Shortest (Edge : ℕ → ℕ → Type 0) (Good : List ℕ → Type 0) (v : ℕ) (walk : List ℕ) : Type 0 where
  pub history : List ℕ
  pub arrives : Walk Edge v history
  pub good : Good history
  pub is : walk ≡ reverse (v ∷ history)
  pub ahead : (h : List ℕ) → Walk Edge v h → Good h → Ahead walk (reverse (v ∷ h))

-- `fn` is the function of a vertex, `Edge` the edges, `region` the region of a function.
module _ (fn : ℕ → ℕ) (Edge : ℕ → ℕ → Type 0) (region : ℕ → ℕ) (v : ℕ) where
  -- g is in the interference set of v and its own function, and has that function's region. (v is contested if there is one.)
  abbrev pub Evicts : ℕ → Type 0
  Evicts g = Interferes fn Edge v (fn v) g × (region g ≡ region (fn v))

  -- The true reason, with the walk that shows it. 1: the lowest such function, and a walk that visits it after the latest earlier visit to the vertex's own
  -- function, or at all. 2: not contested, and a walk with no earlier visit to its own function. 3: neither, and no walk.
  abbrev pub EvictionBy : Reason → List ℕ → Type 0
  EvictionBy (EveryVisit g) walk = Evicts g × ((k : ℕ) → Evicts k → g ≤ k) × Shortest Edge (λ h. Memᴰ g (since fn (fn v) h)) v walk
  EvictionBy FirstLoad walk = Early fn Edge region v × Shortest Edge (λ h. occurs fn (fn v) h ≡ false) v walk
  EvictionBy Never walk = (Contested fn Edge region v → ⊥) × (Fresh fn Edge (fn v) v → ⊥) × (walk ≡ [])

-- The reason for a vertex under a layout.
abbrev pub EvictionIs : Problem → List ℕ → ℕ → Reason → List ℕ → Type 0
EvictionIs p layout = EvictionBy (function_of p) (EdgeOf p) (region_of layout)
