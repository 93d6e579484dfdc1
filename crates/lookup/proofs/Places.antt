-- A problem's functions, vertices, edges and loops, told by the places of its numbers, with their ranges: what every crate above knows of numbers that
-- passed the fields' checks, said once.
use Prim.Native.Nat.{ℕ, ◌+◌, ◌*◌, ◌≤◌, ◌<◌}
use mathlib.Core.Path.{◌≡◌, refl, ap}
use mathlib.Core.List.{List}
use native.Mathlib.Omega.{arith}
use lib.ListN.{length, get_or}
use Rattle.model.specs.declared.Function.{Function}
use Rattle.model.specs.declared.Vertex.{Vertex}
use Rattle.model.specs.declared.Edge.{Edge}
use Rattle.model.specs.declared.Loop.{Loop}
use Rattle.model.specs.Zero.{zero_function, zero_vertex, zero_edge, zero_loop}
use Rattle.model.specs.Numbers.{problem_of, function_at, vertex_at, edge_at, loop_at}
use Rattle.model.specs.Operations.{Checked}
use Rattle.model.specs.Graph.{edge, loop, functions_of, vertices_of}
use Rattle.model.specs.Costs.{size_of, load_cost, check_cost, function_of, own_cost}
use Rattle.model.proofs.Lists.{length-take-table, get_or-take-table}
use Rattle.facts.specs.Fields.{FieldFacts}
use Rattle.facts.proofs.Facts.{field_facts}
use Rattle.lookup.specs.Lists.{vertices_in, edges_in, loops_in}
use Rattle.model.specs.Places as places
use Rattle.model.specs.Limits as limits

-- A checked problem's numbers passed the fields' checks.
pub facts : (l : List ℕ) → Checked l → FieldFacts l
facts l ok = field_facts l ok.need ok.fields

module _ (l : List ℕ) where
  pub scratchpad_at : (problem_of l).scratchpad.0 ≡ get_or l places.scratchpad 0
  unfolding problem_of
  scratchpad_at = refl

  pub function_count_lem : (problem_of l).function_count ≡ get_or l places.function_count 0
  unfolding problem_of
  function_count_lem = refl

  pub vertex_count_lem : vertices_in l ≡ get_or l places.vertex_count 0
  unfolding problem_of
  vertex_count_lem = refl

  module _ (ok : FieldFacts l) where
    pub some_function : 1 ≤ (problem_of l).function_count
    some_function = omega (arith, ok.some_function, function_count_lem)

    pub few_functions : (problem_of l).function_count ≤ places.most_functions
    few_functions = omega (arith, ok.functions, function_count_lem)

    pub some_vertex : 1 ≤ vertices_in l
    some_vertex = omega (arith, ok.some_vertex, vertex_count_lem)

    pub few_vertices : vertices_in l ≤ places.most_vertices
    few_vertices = omega (arith, ok.vertices, vertex_count_lem)

    pub edge_count : length (edges_in l) ≡ get_or l places.edge_count 0
    unfolding problem_of
    edge_count = length-take-table (get_or l places.edge_count 0) places.most_edges (edge_at l) ok.edges

    pub few_edges : length (edges_in l) ≤ places.most_edges
    few_edges = omega (arith, edge_count, ok.edges)

    pub loop_count_lem : length (loops_in l) ≡ get_or l places.loop_count 0
    unfolding problem_of
    loop_count_lem = length-take-table (get_or l places.loop_count 0) places.most_loops (loop_at l) ok.loops

    pub few_loops : length (loops_in l) ≤ places.most_loops
    few_loops = omega (arith, loop_count_lem, ok.loops)

    module _ (f : ℕ) (below : f < (problem_of l).function_count) where
      function_item : get_or (functions_of (problem_of l)) f zero_function ≡ function_at l f
      unfolding problem_of
      function_item = get_or-take-table (get_or l places.function_count 0) places.most_functions (function_at l) f zero_function ok.functions below

      listed_function : f < get_or l places.function_count 0
      listed_function = omega (arith, function_count_lem)

      pub size_at : size_of (problem_of l) f ≡ get_or l (places.size + places.function_width * f) 0
      size_at = ap (λ (x : Function). x.size.0) function_item

      pub load_at : load_cost (problem_of l) f ≡ get_or l (places.load + places.function_width * f) 0
      load_at = ap (λ (x : Function). x.load.0) function_item

      pub check_at_lem : check_cost (problem_of l) f ≡ get_or l (places.check + places.function_width * f) 0
      check_at_lem = ap (λ (x : Function). x.check.0) function_item

      pub size_high : size_of (problem_of l) f ≤ limits.most_bytes
      size_high = omega (arith, size_at, ok.size f listed_function)

      pub load_high : load_cost (problem_of l) f ≤ limits.most_cycles
      load_high = omega (arith, load_at, ok.load f listed_function)

      pub check_high : check_cost (problem_of l) f ≤ limits.most_check
      check_high = omega (arith, check_at_lem, ok.check f listed_function)

    module _ (v : ℕ) (below : v < vertices_in l) where
      vertex_item : get_or (vertices_of (problem_of l)) v zero_vertex ≡ vertex_at l v
      unfolding problem_of
      vertex_item = get_or-take-table (get_or l places.vertex_count 0) places.most_vertices (vertex_at l) v zero_vertex ok.vertices below

      listed_vertex : v < get_or l places.vertex_count 0
      listed_vertex = omega (arith, vertex_count_lem)

      pub vertex_small : v < places.most_vertices
      vertex_small = omega (arith, few_vertices)

      pub function_at_lem : function_of (problem_of l) v ≡ get_or l (places.function + places.vertex_width * v) 0
      function_at_lem = ap (λ (x : Vertex). x.function) vertex_item

      pub cost_at : own_cost (problem_of l) v ≡ get_or l (places.cost + places.vertex_width * v) 0
      cost_at = ap (λ (x : Vertex). x.cost.0) vertex_item

      pub function_below : function_of (problem_of l) v < (problem_of l).function_count
      function_below = omega (arith, function_at_lem, function_count_lem, ok.function v listed_vertex)

      pub function_small : (g : ℕ) → g ≡ function_of (problem_of l) v → g < places.most_functions
      function_small g is_g = omega (arith, function_below, few_functions)

      pub cost_high : own_cost (problem_of l) v ≤ limits.most_cycles
      cost_high = omega (arith, cost_at, ok.cost v listed_vertex)

    module _ (i : ℕ) (below : i < length (edges_in l)) where
      pub listed_edge : i < get_or l places.edge_count 0
      listed_edge = omega (arith, edge_count)

      pub edge_small : i < places.most_edges
      edge_small = omega (arith, few_edges)

      pub edge_at_lem : edge (edges_in l) i ≡ edge_at l i
      unfolding problem_of
      edge_at_lem = get_or-take-table (get_or l places.edge_count 0) places.most_edges (edge_at l) i zero_edge ok.edges listed_edge

      pub from_at : (edge (edges_in l) i).from ≡ get_or l (places.from + places.edge_width * i) 0
      from_at = ap (λ (x : Edge). x.from) edge_at_lem

      pub to_at : (edge (edges_in l) i).to ≡ get_or l (places.to + places.edge_width * i) 0
      to_at = ap (λ (x : Edge). x.to) edge_at_lem

      pub from_below : (edge (edges_in l) i).from < vertices_in l
      from_below = omega (arith, from_at, vertex_count_lem, ok.from i listed_edge)

      pub to_below : (edge (edges_in l) i).to < vertices_in l
      to_below = omega (arith, to_at, vertex_count_lem, ok.to i listed_edge)

      pub from_small : (edge (edges_in l) i).from < places.most_vertices
      from_small = omega (arith, from_below, few_vertices)

      pub to_small : (edge (edges_in l) i).to < places.most_vertices
      to_small = omega (arith, to_below, few_vertices)

    module _ (i : ℕ) (below : i < length (loops_in l)) where
      pub listed_loop : i < get_or l places.loop_count 0
      listed_loop = omega (arith, loop_count_lem)

      pub loop_small : i < places.most_loops
      loop_small = omega (arith, few_loops)

      pub loop_at_lem : loop (loops_in l) i ≡ loop_at l i
      unfolding problem_of
      loop_at_lem = get_or-take-table (get_or l places.loop_count 0) places.most_loops (loop_at l) i zero_loop ok.loops listed_loop

      pub header_at : (loop (loops_in l) i).header ≡ get_or l (places.header + places.loop_width * i) 0
      header_at = ap (λ (x : Loop). x.header) loop_at_lem

      pub last_at_lem : (loop (loops_in l) i).last ≡ get_or l (places.last + places.loop_width * i) 0
      last_at_lem = ap (λ (x : Loop). x.last) loop_at_lem

      pub bound_at : (loop (loops_in l) i).bound ≡ get_or l (places.bound + places.loop_width * i) 0
      bound_at = ap (λ (x : Loop). x.bound) loop_at_lem

      pub header_low : (loop (loops_in l) i).header ≤ (loop (loops_in l) i).last
      header_low = omega (arith, ok.header i listed_loop, header_at, last_at_lem)

      pub last_below_lem : (loop (loops_in l) i).last < vertices_in l
      last_below_lem = omega (arith, ok.last i listed_loop, last_at_lem, vertex_count_lem)

      pub last_small : (loop (loops_in l) i).last < places.most_vertices
      last_small = omega (arith, last_below_lem, few_vertices)

      pub header_small : (loop (loops_in l) i).header < places.most_vertices
      header_small = omega (arith, header_low, last_small)

      pub bound_low : 1 ≤ (loop (loops_in l) i).bound
      bound_low = omega (arith, ok.bound_low i listed_loop, bound_at)

      pub bound_high : (loop (loops_in l) i).bound ≤ limits.most_visits
      bound_high = omega (arith, ok.bound_high i listed_loop, bound_at)

    pub next_header : (i : ℕ) → i + 1 < length (loops_in l) → (loop (loops_in l) i).header < (loop (loops_in l) (i + 1)).header
    next_header i below =
        omega (arith, ok.headers i (listed_loop (i + 1) below), header_at i (omega arith), header_at (i + 1) below)
