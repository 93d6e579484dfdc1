-- The numbers by which the greatest weight of a lawful walk is found, a vertex and a loop at a time: the equations that a program's filling
-- has to satisfy. A visit to v weighs `c v`, entering a loop l weighs `e l`. `D v` is for a visit to v: the greatest weight
-- since the innermost loop's present iteration began, or since the start. `E l` is for entering l: what the iteration around it has by then, the entry included.
-- `T l` is for one iteration of l. Numbers are kept up to a cap.
use Rattle.std.specs.Prelude.{ℕ, zero, suc, ◌+◌, ◌-◌, ◌*◌, ◌<◌, min, max, ◌≡◌, Bool, true, cond, not, ◌&&◌, eqb}
use mathlib.Core.List.{List, Memᴰ}
use Rattle.model.specs.declared.Edge.{Edge}
use Rattle.model.specs.declared.Loop.{Loop}
use Rattle.model.specs.Graph.{holds, edge}
use Rattle.model.specs.Walks.{sum}

-- What a loop adds that the edge from u to v leaves: entering it, and all its iterations but the last.
unfoldable pub left : (E T : Loop → ℕ) → ℕ → ℕ → Loop → ℕ
left E T u v l = cond (holds l u) (cond (holds l v) 0 (E l + (l.bound - 1) * T l)) 0

unfoldable pub leave : (E T : Loop → ℕ) → List Loop → ℕ → ℕ → ℕ
leave E T ls u v = sum (left E T u v) ls

-- Where the edges of a list start and end.
abbrev pub starts : List Edge → ℕ → ℕ
starts es i = (edge es i).from

abbrev pub ends : List Edge → ℕ → ℕ
ends es i = (edge es i).to

-- The greatest f u over those of the first m edges that go from a u that passes the test to v, or 0. Edge i goes from `a i` to `b i`.
unfoldable pub best : (a b : ℕ → ℕ) (test : ℕ → Bool) (f : ℕ → ℕ) (v m : ℕ) → ℕ
best a b test f v zero = 0
best a b test f v (suc i) = max (best a b test f v i) (cond (eqb (b i) v && test (a i)) (f (a i)) 0)

-- No loop starts at v.
abbrev pub NoHeader : List Loop → ℕ → Type 0
NoHeader ls v = (l : Loop) → Memᴰ l ls → l.header ≡ v → ⊥

module _ (a b : ℕ → ℕ) (m : ℕ) (ls : List Loop) (c : ℕ → ℕ) (e : Loop → ℕ) (D : ℕ → ℕ) (E T : Loop → ℕ) (cap : ℕ) where
  -- What a vertex that is no header, a loop's entry and a loop's iteration get from the edges to v.
  abbrev pub best_visit : ℕ → ℕ
  best_visit v = best a b (λ u. true) (λ u. min cap (D u + leave E T ls u v + c v)) v m

  abbrev pub best_entry : Loop → ℕ → ℕ
  best_entry l v = best a b (λ u. not (holds l u)) (λ u. min cap (D u + leave E T ls u v + e l)) v m

  abbrev pub best_turn : Loop → ℕ → ℕ
  best_turn l v = best a b (λ u. holds l u) (λ u. min cap (D u + leave E T ls u v)) v m

  -- The numbers of the vertices 0 to n - 1 and of all loops solve the equations by which they are filled.
  pub record Solved (n : ℕ) : Type 0 where
    pub first : D 0 ≡ c 0
    pub head : (v : ℕ) (l : Loop) → Memᴰ l ls → l.header ≡ v → D v ≡ c v
    pub inner : (v : ℕ) → v < n → (v ≡ 0 → ⊥) → NoHeader ls v → D v ≡ best_visit v
    pub begin : (l : Loop) → Memᴰ l ls → l.header ≡ 0 → E l ≡ min cap (e l)
    pub entry : (v : ℕ) (l : Loop) → Memᴰ l ls → l.header ≡ v → (v ≡ 0 → ⊥) → E l ≡ best_entry l v
    pub again : (v : ℕ) (l : Loop) → Memᴰ l ls → l.header ≡ v → T l ≡ best_turn l v

  -- The equations of the vertices below x, and of the iterations of the loops that are done.
  pub record SolvedUpto (x : ℕ) (done : Loop → Type 0) : Type 0 where
    pub first : 0 < x → D 0 ≡ c 0
    pub head : (v : ℕ) (l : Loop) → Memᴰ l ls → l.header ≡ v → v < x → D v ≡ c v
    pub inner : (v : ℕ) → v < x → (v ≡ 0 → ⊥) → NoHeader ls v → D v ≡ best_visit v
    pub begin : (l : Loop) → Memᴰ l ls → l.header ≡ 0 → 0 < x → E l ≡ min cap (e l)
    pub entry : (v : ℕ) (l : Loop) → Memᴰ l ls → l.header ≡ v → (v ≡ 0 → ⊥) → v < x → E l ≡ best_entry l v
    pub again : (v : ℕ) (l : Loop) → Memᴰ l ls → l.header ≡ v → done l → T l ≡ best_turn l v
