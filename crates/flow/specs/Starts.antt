-- The edges of a problem by their number, and where those from each vertex begin.
use Rattle.std.specs.Prelude.{ℕ, ◌+◌, ◌≤◌, ◌<◌, ◌≡◌, List, length, get_or}
use Rattle.model.specs.declared.Problem.{Problem}
use Rattle.model.specs.Graph.{edge, edges_of}
use Rattle.model.specs.Places as places

module _ (p : Problem) where
  abbrev pub from : ℕ → ℕ
  from i = (edge (edges_of p) i).from

  abbrev pub to : ℕ → ℕ
  to i = (edge (edges_of p) i).to

  -- Of the edges below n: place x of the table is behind the last one from the vertex below x, or 0.
  pub record Ends (n : ℕ) (behind : List ℕ) : Type 0 where
    pub long : length behind ≡ places.most_vertices + 1
    pub low : (x : ℕ) → get_or behind x 0 ≤ n
    pub last : (x k : ℕ) → get_or behind x 0 ≡ k + 1 → from k + 1 ≡ x
    pub past : (j : ℕ) → j < n → j < get_or behind (from j + 1) 0

  -- The edges from u on begin at place i of the list.
  pub record Begins (u i : ℕ) : Type 0 where
    pub inside : i ≤ length (edges_of p)
    pub lower : (j : ℕ) → j < i → from j < u
    pub rest : (j : ℕ) → i ≤ j → j < length (edges_of p) → u ≤ from j

  pub record Starts (begins : List ℕ) : Type 0 where
    pub at : (u : ℕ) → u ≤ p.vertex_count → Begins u (get_or begins u 0)
