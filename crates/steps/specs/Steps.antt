-- Which steps there are: from the latest vertex of a history to an entry.
use Rattle.std.specs.Prelude.{ℕ, ◌+◌, ◌*◌, ◌<◌, ◌≡◌, List, [], ◌∷◌, Bool, false, cond, get_or, leb}
use Rattle.model.specs.declared.Problem.{Problem}
use Rattle.model.specs.Verdicts.{may_follow}
use Rattle.model.specs.Places as places

-- What stands for the latest vertex before the first entry: no vertex has that number.
abbrev pub start : ℕ
start = places.most_vertices

-- The latest vertex of a history.
abbrev pub latest : List ℕ → ℕ
latest [] = start
latest (v ∷ h) = v

-- The latest vertex, if there is one, is one of the n vertices.
abbrev pub Known : ℕ → List ℕ → Type 0
Known n [] = Unit {0}
Known n (v ∷ h) = v < n

-- A step to v goes back, or to the same vertex.
abbrev pub goes_back : List ℕ → ℕ → Bool
goes_back [] v = false
goes_back (u ∷ h) v = leb v u

-- A table of the steps has a row a vertex, and a last one for the start.
abbrev pub start_row : ℕ
start_row = places.most_vertices * start

abbrev pub step_count : ℕ
step_count = start_row + places.most_vertices

module _ (p : Problem) where
  -- A step as a number: 0, there is none; 1, it starts a stay, if v is a header; 2, it stays in the loop whose header v is.
  abbrev pub step_of : List ℕ → ℕ → ℕ
  step_of h v = cond (may_follow p h v) (cond (goes_back h v) 2 1) 0

  -- A table of the steps.
  pub record Steps (table : List ℕ) : Type 0 where
    pub are : (h : List ℕ) (v : ℕ) → Known p.vertex_count h → v < p.vertex_count → get_or table (places.most_vertices * latest h + v) 0 ≡ step_of h v
