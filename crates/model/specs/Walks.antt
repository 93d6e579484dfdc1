-- The graph: walks, stays and lawful walks. A walk is kept as a history, its latest vertex first, since what document 01 says of a visit looks back.
use Rattle.std.specs.Prelude.{ℕ, ◌+◌, ◌-◌, ◌≤◌, ◌≡◌, cond, ◌⊎◌, eqb}
use mathlib.Core.List.{List, [], ◌∷◌, reverse, Memᴰ}
use Rattle.model.specs.declared.Loop.{Loop}
use Rattle.model.specs.declared.Problem.{Problem}
use Rattle.model.specs.Graph.{holds, edges_of, loops_of}

-- There is an edge from u to v.
abbrev pub EdgeOf : Problem → ℕ → ℕ → Type 0
EdgeOf p u v = Memᴰ (record { from = u; to = v }) (edges_of p)

-- The highest vertex is last.
abbrev pub last_vertex : Problem → ℕ
last_vertex p = p.vertex_count - 1

-- A *walk* starts at vertex 0 and follows edges: it arrives at v, and h are the vertices visited before, the latest first.
pub data Walk (Edge : ℕ → ℕ → Type 0) : ℕ → List ℕ → Type 0 where
  start : Walk Edge 0 []
  step : {u v : ℕ} {h : List ℕ} → Walk Edge u h → Edge u v → Walk Edge v (u ∷ h)

-- A *stay* in a loop lasts from entering its range to leaving it: the visits to the header in the present stay, 0 outside the range.
unfoldable pub visits : Loop → List ℕ → ℕ
visits l [] = 0
visits l (v ∷ h) = cond (holds l v) (visits l h + cond (eqb l.header v) 1 0) 0

-- No stay visits its header more often than the bound.
unfoldable pub Within : List Loop → List ℕ → Type 0
Within ls [] = Unit {0}
Within ls (v ∷ h) = ((l : Loop) → Memᴰ l ls → l.header ≡ v → visits l (v ∷ h) ≤ l.bound) × Within ls h

-- A walk is *lawful* if it ends at the last vertex and no stay visits its header more often than the bound. h are the vertices before the last one.
pub record Lawful (p : Problem) (h : List ℕ) : Type 0 where
  pub walk : Walk (EdgeOf p) (last_vertex p) h
  pub within : Within (loops_of p) (last_vertex p ∷ h)

-- A walk in its own order, its first vertex first, is lawful.
abbrev pub LawfulWalk : Problem → List ℕ → Type 0
LawfulWalk p walk = (h : List ℕ) × (reverse walk ≡ last_vertex p ∷ h) × Lawful p h

-- The sum of f over loops.
unfoldable pub sum : (Loop → ℕ) → List Loop → ℕ
sum f [] = 0
sum f (l ∷ ls) = f l + sum f ls

-- What a visit to v after h pays for entering the loop l: v is its header, and in the present stay there was no visit to it before.
unfoldable pub entering : (Loop → ℕ) → ℕ → List ℕ → Loop → ℕ
entering e v h l = cond (eqb l.header v) (cond (eqb (visits l h) 0) (e l) 0) 0

-- What a walk pays, with a charge at each visit and one at each entry of a loop.
unfoldable pub weights : List Loop → (ℕ → ℕ) → (Loop → ℕ) → List ℕ → ℕ
weights ls c e [] = 0
weights ls c e (v ∷ h) = weights ls c e h + sum (entering e v h) ls + c v

-- m is the greatest sum of f over all lawful walks.
pub record Greatest (p : Problem) (f : List ℕ → ℕ) (m : ℕ) : Type 0 where
  pub above : (h : List ℕ) → Lawful p h → f (last_vertex p ∷ h) ≤ m
  pub reached : (h : List ℕ) × Lawful p h × (f (last_vertex p ∷ h) ≡ m)

-- b is the smaller of x and the greatest f over all lawful walks. That greatest f need not be known where x is the smaller.
pub record Smaller (p : Problem) (x : ℕ) (f : List ℕ → ℕ) (b : ℕ) : Type 0 where
  pub most : b ≤ x
  pub reached : (h : List ℕ) × Lawful p h × (b ≤ f (last_vertex p ∷ h))
  pub one : (b ≡ x) ⊎ ((h : List ℕ) → Lawful p h → f (last_vertex p ∷ h) ≤ b)
