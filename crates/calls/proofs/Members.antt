-- A drawn graph's lists by their places, and what holds at every place holds of the members.
use Prim.Native.Nat.{ℕ, ◌<◌}
use mathlib.Core.Path.{◌≡◌, sym, ap, subst, ◌∙◌}
use mathlib.Core.List.{List, Memᴰ}
use native.Mathlib.Omega.{arith}
use lib.ListN.{length, get_or}
use Rattle.model.specs.declared.Edge.{Edge}
use Rattle.model.specs.declared.Loop.{Loop}
use Rattle.model.specs.declared.Vertex.{Vertex}
use Rattle.model.specs.Places as places
use Rattle.model.specs.Zero.{zero_vertex, zero_edge, zero_loop}
use Rattle.model.specs.Graph.{edge, loop, edges_of, loops_of}
use Rattle.model.specs.Costs.{own_cost}
use Rattle.model.specs.Drawings.{drawn_functions, drawn_count, drawn_edges, drawn_loops, drawn_vertex, drawn_edge, drawn_loop, graph_of}
use Rattle.model.proofs.Lists.{index_of, length-take-table, get_or-take-table}
use Rattle.drawings.specs.Facts.{DrawingFacts}

every :
    {A : Type 0} (spare : A) (s : List A) (count : ℕ) (g : ℕ → A) (P : A → Type 0) → length s ≡ count → ((i : ℕ) → i < count → get_or s i spare ≡ g i) →
    ((i : ℕ) → i < count → P (g i)) → (x : A) → Memᴰ x s → P x
every spare s count g P long at all x m =
    let (i, h, e) = index_of spare m in
    let low : i < count = omega arith in
    subst P (sym (at i low) ∙ e) (all i low)

module _ (d : List ℕ) (facts : DrawingFacts d) (f : ℕ) (known : f < drawn_functions d) where
  pub edge_count : length (edges_of (graph_of d f)) ≡ drawn_edges d f
  unfolding graph_of
  edge_count = length-take-table (drawn_edges d f) places.most_edges (drawn_edge d f) (facts.drawn f known).edges

  pub edge_at_lem : (i : ℕ) → i < drawn_edges d f → edge (edges_of (graph_of d f)) i ≡ drawn_edge d f i
  unfolding graph_of
  edge_at_lem i = get_or-take-table (drawn_edges d f) places.most_edges (drawn_edge d f) i zero_edge (facts.drawn f known).edges

  pub every_edge : (P : Edge → Type 0) → ((i : ℕ) → i < drawn_edges d f → P (drawn_edge d f i)) → (e : Edge) → Memᴰ e (edges_of (graph_of d f)) → P e
  every_edge P = every zero_edge (edges_of (graph_of d f)) (drawn_edges d f) (drawn_edge d f) P edge_count edge_at_lem

  pub loop_count_lem : length (loops_of (graph_of d f)) ≡ drawn_loops d f
  unfolding graph_of
  loop_count_lem = length-take-table (drawn_loops d f) places.most_loops (drawn_loop d f) (facts.drawn f known).loops

  pub loop_at_lem : (i : ℕ) → i < drawn_loops d f → loop (loops_of (graph_of d f)) i ≡ drawn_loop d f i
  unfolding graph_of
  loop_at_lem i = get_or-take-table (drawn_loops d f) places.most_loops (drawn_loop d f) i zero_loop (facts.drawn f known).loops

  pub every_loop : (P : Loop → Type 0) → ((i : ℕ) → i < drawn_loops d f → P (drawn_loop d f i)) → (l : Loop) → Memᴰ l (loops_of (graph_of d f)) → P l
  every_loop P = every zero_loop (loops_of (graph_of d f)) (drawn_loops d f) (drawn_loop d f) P loop_count_lem loop_at_lem

  pub vertex_cost : (v : ℕ) → v < drawn_count d f → own_cost (graph_of d f) v ≡ (drawn_vertex d f v).cost.0
  unfolding graph_of
  vertex_cost v h = ap (λ (x : Vertex). x.cost.0) (get_or-take-table (drawn_count d f) places.most_vertices (drawn_vertex d f) v zero_vertex (facts.drawn f known).vertices h)
