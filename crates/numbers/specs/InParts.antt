-- A problem made of counts and lists of items.
use Rattle.std.specs.Prelude.{ℕ, List}
use Rattle.model.specs.declared.Function.{Function}
use Rattle.model.specs.declared.Vertex.{Vertex}
use Rattle.model.specs.declared.Edge.{Edge}
use Rattle.model.specs.declared.Loop.{Loop}
use Rattle.model.specs.declared.Problem.{Problem}
use Rattle.model.specs.Zero.{bytes, zero_function, zero_vertex, zero_edge, zero_loop}
use Rattle.model.specs.Places as places
use Rattle.model.specs.Numbers.{in_places}

-- The problem with these counts, and these items in its places, the spare ones zero.
abbrev pub in_parts : ℕ → ℕ → List Function → ℕ → List Vertex → ℕ → List Edge → ℕ → List Loop → Problem
in_parts scratchpad function_count fs vertex_count vs edge_count es loop_count ls =
    record {
      scratchpad = bytes scratchpad;
      function_count = function_count;
      functions = in_places places.most_functions zero_function fs;
      vertex_count = vertex_count;
      vertices = in_places places.most_vertices zero_vertex vs;
      edge_count = edge_count;
      edges = in_places places.most_edges zero_edge es;
      loop_count = loop_count;
      loops = in_places places.most_loops zero_loop ls;
    }
