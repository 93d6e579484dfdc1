-- Rule 6 by marks: a table says of each vertex whether one of the edges looked at so far enters it from below, another whether one leaves it.
use Rattle.std.specs.Prelude.{ℕ, ◌-◌, ◌<◌, ◌≡◌, List, Bool, cond, not, ◌&&◌, ◌||◌, length, get_or, eqb, ltb}
use Rattle.model.specs.declared.Edge.{Edge}
use Rattle.model.specs.Search.{exists_below}
use Rattle.model.specs.Graph.{edge, enters_from_below}
use Rattle.model.specs.Places as places

-- The mark of `to` after an edge that leads there.
abbrev pub entry_mark : ℕ → ℕ → ℕ → ℕ
entry_mark mark from to = cond (ltb from to) 1 mark

-- A vertex v of n lacks an edge, told by its marks.
abbrev pub lacks_by : ℕ → ℕ → ℕ → ℕ → Bool
lacks_by entry exit v n = (ltb 0 v && not (eqb entry 1)) || (ltb v (n - 1) && not (eqb exit 1))

-- The ends of the first k edges are marked.
pub record EndsMarked (es : List Edge) (k : ℕ) (entered exited : List ℕ) : Type 0 where
  pub entries : length entered ≡ places.most_vertices
  pub exits : length exited ≡ places.most_vertices
  pub into : (v : ℕ) → v < places.most_vertices → eqb (get_or entered v 0) 1 ≡ exists_below k (λ i. enters_from_below v (edge es i))
  pub out : (v : ℕ) → v < places.most_vertices → eqb (get_or exited v 0) 1 ≡ exists_below k (λ i. eqb (edge es i).from v)
