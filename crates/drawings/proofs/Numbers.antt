-- The numbers of a drawn graph's problem are the drawn ones, each at its place.
use Prim.Native.Nat.{ℕ, ◌<◌}
use mathlib.Core.Path.{◌≡◌, ◌∙◌}
use mathlib.Core.List.{List}
use lib.ListN.{get_or}
use Rattle.model.specs.Zero.{zero_function, zero_vertex, zero_edge, zero_loop}
use Rattle.model.specs.Places as places
use Rattle.model.specs.Numbers.{edition_of, numbers_of, function_at, vertex_at, edge_at, loop_at, Sized}
use Rattle.model.specs.Drawings.{drawn_scratchpad, drawn_functions, drawn_count, drawn_edges, drawn_loops, drawn_function, drawn_vertex, drawn_edge, drawn_loop, graph_of}
use Rattle.model.proofs.Lists.{length-table, get_or-table}
use Rattle.numbers.proofs.At as at

module _ (d : List ℕ) (f : ℕ) where
  pub sized_graph : Sized (graph_of d f)
  unfolding graph_of
  sized_graph =
      record {
        functions = length-table places.most_functions (λ i. drawn_function d f);
        vertices = length-table places.most_vertices (drawn_vertex d f);
        edges = length-table places.most_edges (drawn_edge d f);
        loops = length-table places.most_loops (drawn_loop d f);
      }

  abbrev pub drawn_numbers : List ℕ
  drawn_numbers = numbers_of (graph_of d f)

  pub scratchpad_is : get_or drawn_numbers places.scratchpad 0 ≡ drawn_scratchpad d
  unfolding graph_of
  scratchpad_is = at.scratchpad_is (edition_of (graph_of d f)) (graph_of d f) sized_graph

  pub functions_are : get_or drawn_numbers places.function_count 0 ≡ drawn_functions d
  unfolding graph_of
  functions_are = at.functions_are (edition_of (graph_of d f)) (graph_of d f) sized_graph

  pub vertices_are : get_or drawn_numbers places.vertex_count 0 ≡ drawn_count d f
  unfolding graph_of
  vertices_are = at.vertices_are (edition_of (graph_of d f)) (graph_of d f) sized_graph

  pub edges_are : get_or drawn_numbers places.edge_count 0 ≡ drawn_edges d f
  unfolding graph_of
  edges_are = at.edges_are (edition_of (graph_of d f)) (graph_of d f) sized_graph

  pub loops_are : get_or drawn_numbers places.loop_count 0 ≡ drawn_loops d f
  unfolding graph_of
  loops_are = at.loops_are (edition_of (graph_of d f)) (graph_of d f) sized_graph

  module _ (i : ℕ) where
    pub function_is : i < places.most_functions → function_at drawn_numbers i ≡ drawn_function d f
    unfolding graph_of
    function_is h = at.function_is (edition_of (graph_of d f)) (graph_of d f) sized_graph i h ∙ get_or-table places.most_functions (λ k. drawn_function d f) i zero_function h

    pub vertex_is : i < places.most_vertices → vertex_at drawn_numbers i ≡ drawn_vertex d f i
    unfolding graph_of
    vertex_is h = at.vertex_is (edition_of (graph_of d f)) (graph_of d f) sized_graph i h ∙ get_or-table places.most_vertices (drawn_vertex d f) i zero_vertex h

    pub edge_is : i < places.most_edges → edge_at drawn_numbers i ≡ drawn_edge d f i
    unfolding graph_of
    edge_is h = at.edge_is (edition_of (graph_of d f)) (graph_of d f) sized_graph i h ∙ get_or-table places.most_edges (drawn_edge d f) i zero_edge h

    pub loop_is : i < places.most_loops → loop_at drawn_numbers i ≡ drawn_loop d f i
    unfolding graph_of
    loop_is h = at.loop_is (edition_of (graph_of d f)) (graph_of d f) sized_graph i h ∙ get_or-table places.most_loops (drawn_loop d f) i zero_loop h
