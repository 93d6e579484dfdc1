-- A problem put together from its four lists is the problem of the numbers.
use Prim.Native.Nat.{ℕ, ◌+◌, ◌*◌}
use mathlib.Core.Path.{◌≡◌, ◌∙◌}
use mathlib.Core.List.{List}
use native.Mathlib.Omega.{arith}
use lib.ListN.{get_or}
use Rattle.model.specs.declared.Function.{Function}
use Rattle.model.specs.declared.Vertex.{Vertex}
use Rattle.model.specs.declared.Edge.{Edge}
use Rattle.model.specs.declared.Loop.{Loop}
use Rattle.model.specs.declared.Problem.{Problem}
use Rattle.model.specs.Zero.{bytes, cycles}
use Rattle.model.specs.Numbers.{table, function_at, vertex_at, edge_at, loop_at, problem_of}
use Rattle.numbers.specs.Items.{function_from, vertex_from, edge_from, loop_from}
use Rattle.model.specs.Places as places

-- A place behind an item's first is as far behind the first item's.
place : (first behind k : ℕ) → (first + k) + behind ≡ (first + behind) + k
place first behind k = omega arith

module _ (l : List ℕ) where
  -- The lists that the places say.
  functions_read : table places.most_functions (λ i. function_from l (places.size + places.function_width * i)) ≡ table places.most_functions (function_at l)
  functions_read = λ j. table places.most_functions (λ i.
      let k = places.function_width * i in
      record { size = bytes (get_or l (places.size + k) 0); load = cycles (get_or l (place places.size 1 k j) 0); check = cycles (get_or l (place places.size 2 k j) 0) })

  vertices_read : table places.most_vertices (λ i. vertex_from l (places.function + places.vertex_width * i)) ≡ table places.most_vertices (vertex_at l)
  vertices_read = λ j. table places.most_vertices (λ i.
      let k = places.vertex_width * i in
      record { function = get_or l (places.function + k) 0; cost = cycles (get_or l (place places.function 1 k j) 0) })

  edges_read : table places.most_edges (λ i. edge_from l (places.from + places.edge_width * i)) ≡ table places.most_edges (edge_at l)
  edges_read = λ j. table places.most_edges (λ i.
      let k = places.edge_width * i in
      record { from = get_or l (places.from + k) 0; to = get_or l (place places.from 1 k j) 0 })

  pub loops_read : table places.most_loops (λ i. loop_from l (places.header + places.loop_width * i)) ≡ table places.most_loops (loop_at l)
  loops_read = λ j. table places.most_loops (λ i.
      let k = places.loop_width * i in
      record { header = get_or l (places.header + k) 0; last = get_or l (place places.header 1 k j) 0; bound = get_or l (place places.header 2 k j) 0 })

  abbrev pub with_lists : List Function → List Vertex → List Edge → List Loop → Problem
  with_lists fs vs es ls =
      record {
        scratchpad = bytes (get_or l places.scratchpad 0);
        function_count = get_or l places.function_count 0;
        functions = fs;
        vertex_count = get_or l places.vertex_count 0;
        vertices = vs;
        edge_count = get_or l places.edge_count 0;
        edges = es;
        loop_count = get_or l places.loop_count 0;
        loops = ls;
      }

  pub assembled : (fs : List Function) (vs : List Vertex) (es : List Edge) (ls : List Loop) →
      fs ≡ table places.most_functions (λ i. function_from l (places.size + places.function_width * i)) →
      vs ≡ table places.most_vertices (λ i. vertex_from l (places.function + places.vertex_width * i)) →
      es ≡ table places.most_edges (λ i. edge_from l (places.from + places.edge_width * i)) →
      ls ≡ table places.most_loops (loop_at l) →
      with_lists fs vs es ls ≡ problem_of l
  unfolding problem_of
  assembled fs vs es ls f v e o = λ j. with_lists ((f ∙ functions_read) j) ((v ∙ vertices_read) j) ((e ∙ edges_read) j) (o j)
