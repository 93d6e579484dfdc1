-- Interference and charges: interference sets over walks (003, Definition 1, as walks), contested vertices, cold functions. `fn` is the function of
-- a vertex, `Edge` the edges, `region` the region of a function.
use Rattle.std.specs.Prelude.{ℕ, ◌≡◌, Bool, true, false, cond, eqb}
use mathlib.Core.List.{List, [], ◌∷◌, Memᴰ}
use Rattle.model.specs.Walks.{Walk}

module _ (fn : ℕ → ℕ) where
  -- The functions visited after the latest visit to f, or at all if f was not visited.
  unfoldable pub since : ℕ → List ℕ → List ℕ
  since f [] = []
  since f (v ∷ h) = cond (eqb (fn v) f) [] (fn v ∷ since f h)

  -- f was visited.
  unfoldable pub occurs : ℕ → List ℕ → Bool
  occurs f [] = false
  occurs f (v ∷ h) = cond (eqb (fn v) f) true (occurs f h)

  module _ (Edge : ℕ → ℕ → Type 0) where
    -- The *interference set* of v and f holds g: another function, which some walk arriving at v has visited after its latest visit to f, or at all.
    abbrev pub Interferes : ℕ → ℕ → ℕ → Type 0
    Interferes v f g = (g ≡ f → ⊥) × ((h : List ℕ) × Walk Edge v h × Memᴰ g (since f h))

    -- v can be reached by a walk with no earlier vertex of f.
    abbrev pub Fresh : ℕ → ℕ → Type 0
    Fresh f v = (h : List ℕ) × Walk Edge v h × (occurs f h ≡ false)

    module _ (region : ℕ → ℕ) where
      -- v is *contested*: the set of v and its own function has a function in that function's region.
      abbrev pub Contested : ℕ → Type 0
      Contested v = (g : ℕ) × Interferes v (fn v) g × (region g ≡ region (fn v))

      -- v is uncontested and can be reached by a walk with no earlier vertex of its function.
      abbrev pub Early : ℕ → Type 0
      Early v = (Contested v → ⊥) × Fresh (fn v) v

      -- f is *cold*: one of its vertices is early.
      abbrev pub Cold : ℕ → Type 0
      Cold f = (v : ℕ) × (fn v ≡ f) × Early v
