-- Where a graph's edges from a vertex on begin.
use Rattle.std.specs.Prelude.{ℕ, ◌≤◌, ◌<◌, List}
use Rattle.model.specs.Drawings.{drawn_edges, drawn_edge}

pub record FirstFrom (d : List ℕ) (f v at : ℕ) : Type 0 where
  pub within : at ≤ drawn_edges d f
  pub below : (j : ℕ) → j < at → (drawn_edge d f j).from < v
  pub above : (j : ℕ) → at ≤ j → j < drawn_edges d f → v ≤ (drawn_edge d f j).from
