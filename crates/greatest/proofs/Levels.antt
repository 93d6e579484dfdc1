-- Numbers that are high enough to bound every lawful walk, and numbers that are low enough for a lawful walk to reach them.
use Prim.Native.Nat.{ℕ, ◌+◌, ◌≤◌, ◌<◌, min}
use mathlib.Core.Path.{◌≡◌}
use mathlib.Core.List.{List, Memᴰ}
use mathlib.Core.Bool.{true, false}
use mathlib.Core.Logic.{◌⊎◌}
use Rattle.model.specs.declared.Loop.{Loop}
use Rattle.model.specs.Graph.{holds}
use Rattle.greatest.specs.Numbers.{leave, NoHeader}

module _ (Edge : ℕ → ℕ → Type 0) (ls : List Loop) (c : ℕ → ℕ) (e : Loop → ℕ) (D : ℕ → ℕ) (E T : Loop → ℕ) where
  -- The numbers are high enough, or at the cap.
  pub record High (cap : ℕ) : Type 0 where
    pub first : min cap (c 0) ≤ D 0
    pub head : (v : ℕ) (l : Loop) → Memᴰ l ls → l.header ≡ v → min cap (c v) ≤ D v
    pub inner : (u v : ℕ) → Edge u v → u < v → NoHeader ls v → min cap (D u + leave E T ls u v + c v) ≤ D v
    pub begin : (l : Loop) → Memᴰ l ls → l.header ≡ 0 → min cap (e l) ≤ E l
    pub entry : (u v : ℕ) (l : Loop) → Edge u v → Memᴰ l ls → l.header ≡ v → holds l u ≡ false → min cap (D u + leave E T ls u v + e l) ≤ E l
    pub again : (u v : ℕ) (l : Loop) → Edge u v → Memᴰ l ls → l.header ≡ v → holds l u ≡ true → min cap (D u + leave E T ls u v) ≤ T l

  -- The numbers of the vertices below n and of the loops are no higher than some edge makes them.
  pub record Low (n : ℕ) : Type 0 where
    pub first : D 0 ≤ c 0
    pub head : (v : ℕ) (l : Loop) → Memᴰ l ls → l.header ≡ v → D v ≤ c v
    pub inner : (v : ℕ) → v < n → (v ≡ 0 → ⊥) → NoHeader ls v → (u : ℕ) × Edge u v × (D v ≤ D u + leave E T ls u v + c v)
    pub entry : (v : ℕ) (l : Loop) → Memᴰ l ls → l.header ≡ v
        → ((v ≡ 0) × (E l ≤ e l)) ⊎ ((u : ℕ) × Edge u v × (holds l u ≡ false) × (E l ≤ D u + leave E T ls u v + e l))
    pub again : (v : ℕ) (l : Loop) → Memᴰ l ls → l.header ≡ v → (u : ℕ) × Edge u v × (holds l u ≡ true) × (T l ≤ D u + leave E T ls u v)
