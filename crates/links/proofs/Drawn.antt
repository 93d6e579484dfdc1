-- The lists of a drawn graph, item by item, and how far a row of an inlined drawing reaches.
use Prim.Native.Nat.{ℕ, ◌≤◌, ◌<◌}
use mathlib.Core.Path.{◌≡◌}
use mathlib.Core.List.{List}
use native.Mathlib.Omega.{arith}
use lib.ListN.{length}
use Rattle.model.specs.declared.Row.{Row}
use Rattle.model.specs.Places as places
use Rattle.model.specs.Zero.{zero_edge, zero_loop}
use Rattle.model.specs.Graph.{edges_of, loops_of, edge, loop}
use Rattle.model.specs.Drawings.{drawn_edges, drawn_loops, drawn_edge, drawn_loop, graph_of}
use Rattle.model.proofs.Lists.{length-take-table, get_or-take-table}
use Rattle.drawings.specs.Facts.{DrawnFacts, DrawingFacts}
use Rattle.rows.specs.Fit.{RowFits}

module _ (d : List ℕ) (f : ℕ) (facts : DrawnFacts d f) where
  pub edge_count : length (edges_of (graph_of d f)) ≡ drawn_edges d f
  unfolding graph_of
  edge_count = length-take-table (drawn_edges d f) places.most_edges (drawn_edge d f) facts.edges

  pub edge_at_lem : (j : ℕ) → j < drawn_edges d f → edge (edges_of (graph_of d f)) j ≡ drawn_edge d f j
  unfolding graph_of
  edge_at_lem j h = get_or-take-table (drawn_edges d f) places.most_edges (drawn_edge d f) j zero_edge facts.edges h

  pub loop_count_lem : length (loops_of (graph_of d f)) ≡ drawn_loops d f
  unfolding graph_of
  loop_count_lem = length-take-table (drawn_loops d f) places.most_loops (drawn_loop d f) facts.loops

  pub loop_at_lem : (j : ℕ) → j < drawn_loops d f → loop (loops_of (graph_of d f)) j ≡ drawn_loop d f j
  unfolding graph_of
  loop_at_lem j h = get_or-take-table (drawn_loops d f) places.most_loops (drawn_loop d f) j zero_loop facts.loops h

-- A row within the first 128.
module _ (d : List ℕ) (facts : DrawingFacts d) (i : ℕ) (r : Row) (fits : RowFits d i r) where
  pub row_drawn : DrawnFacts d r.function
  row_drawn = facts.drawn r.function fits.function

  pub row_edges : drawn_edges d r.function ≤ places.most_edges
  row_edges = row_drawn.edges

  pub row_loops : drawn_loops d r.function ≤ places.most_loops
  row_loops = row_drawn.loops

  pub row_function : r.function < places.most_functions
  row_function = omega (arith, fits.function, facts.functions)

  pub row_vertex : r.vertex < places.most_vertices
  row_vertex = omega (arith, fits.vertex, row_drawn.vertices)

  pub row_first : i < places.most_vertices → r.first < places.most_vertices
  row_first h = omega (arith, fits.first)
