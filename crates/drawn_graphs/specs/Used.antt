-- The graph drawn for a function, of which only the used places are looked at.
use Rattle.std.specs.Prelude.{ℕ, min, List}
use Rattle.model.specs.declared.Problem.{Problem}
use Rattle.model.specs.Places as places
use Rattle.model.specs.Numbers.{table}
use Rattle.model.specs.Drawings.{drawn_scratchpad, drawn_functions, drawn_count, drawn_edges, drawn_loops, drawn_function, drawn_vertex, drawn_edge, drawn_loop}
use Rattle.numbers.specs.InParts.{in_parts}

module _ (d : List ℕ) (f : ℕ) where
  -- `graph_of`, but for spare places, which are zero. A count, which may be any number, is kept as drawn.
  unfoldable pub used_graph : Problem
  used_graph =
      in_parts (drawn_scratchpad d)
      (drawn_functions d) (table (min (drawn_functions d) places.most_functions) (λ i. drawn_function d f))
      (drawn_count d f) (table (min (drawn_count d f) places.most_vertices) (drawn_vertex d f))
      (drawn_edges d f) (table (min (drawn_edges d f) places.most_edges) (drawn_edge d f))
      (drawn_loops d f) (table (min (drawn_loops d f) places.most_loops) (drawn_loop d f))
