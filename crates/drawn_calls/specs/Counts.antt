-- What a drawing satisfies that passed 3, of its counts: all that 20 asks for.
use Rattle.std.specs.Prelude.{ℕ, ◌≤◌, ◌<◌, List}
use Rattle.model.specs.Places as places
use Rattle.model.specs.Drawings.{drawn_functions, drawn_count}

pub record Countable (d : List ℕ) : Type 0 where
  pub functions : drawn_functions d ≤ places.most_functions
  pub some_vertex : (f : ℕ) → f < drawn_functions d → 1 ≤ drawn_count d f
  pub vertices : (f : ℕ) → f < drawn_functions d → drawn_count d f ≤ places.most_vertices
