-- What the code must know of a row to tell what follows it.
use Rattle.std.specs.Prelude.{ℕ, ◌<◌}
use Rattle.model.specs.declared.Row.{Row}
use Rattle.model.specs.Places as places

pub record Followed (r caller : Row) (i : ℕ) : Type 0 where
  pub function : r.function < places.most_functions
  pub vertex : r.vertex < places.most_vertices
  pub caller_vertex : caller.vertex < places.most_vertices
  pub number : i < places.most_vertices
