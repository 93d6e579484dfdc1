-- What the parts of the one problem say of call stacks: its edges are steps, its loops the graphs' loops in their copies, its vertices show what the states show.
use Prim.Native.Nat.{ℕ, suc, ◌<◌}
use mathlib.Core.Path.{◌≡◌, refl, sym, ap, subst, ◌∙◌}
use mathlib.Core.List.{List, [], Memᴰ}
use native.Mathlib.Omega.{arith}
use lib.ListN.{length, get_or}
use Rattle.model.specs.declared.Function.{Function}
use Rattle.model.specs.declared.Loop.{Loop}
use Rattle.model.specs.declared.Vertex.{Vertex}
use Rattle.model.specs.Zero.{zero_function, zero_vertex}
use Rattle.model.specs.Places as places
use Rattle.model.specs.Graph.{functions_of, vertices_of, loops_of}
use Rattle.model.specs.Walks.{EdgeOf, last_vertex}
use Rattle.model.specs.Drawings.{drawn_functions, drawn_function, graph_of}
use Rattle.model.specs.Inlined.{inlined_rows, copied, inlined_problem}
use Rattle.model.proofs.Lists.{get_or-take-table}
use Rattle.calls.proofs.States.{State, spot, at, Drawn}
use Rattle.calls.proofs.Runs.{Joined}
use Rattle.calls.proofs.Stretch.{Ring}
use Rattle.calls.proofs.Costs.{shown}
use Rattle.calls.proofs.Stacks.{end_stack}
use Rattle.calls.proofs.Cycles.{Labelled}
use Rattle.calls.proofs.Sizes.{size}
use Rattle.inlined.proofs.RowsAre.{row_of}
use Rattle.inlined.proofs.EdgesAre.{edge_joined, joined_edge}
use Rattle.inlined.proofs.LoopsAre.{loop_ring, ring_loop}
use Rattle.inlined.proofs.Parts.{edges_of_lem, loops_of_lem, vertex_of_lem, function_of}
use Rattle.inlined.proofs.Rules.{edge_leaves}
use Rattle.inlined.proofs.Accepted.{Inlines, all_rows}

module _ (d : List ℕ) (I : Inlines d) where
  abbrev D : Drawn d (size d)
  D = I.drawn

  pub edge_step : (u v : ℕ) → EdgeOf (inlined_problem d) u v → Joined d (size d 0) u v
  edge_step u v e = edge_joined d (size d) D (edge_leaves d I.facts I.lawful (size d) D) (inlined_rows d) (all_rows d I) u v (subst (Memᴰ (record { from = u; to = v })) (edges_of_lem d I.few) e)

  pub step_edge : (u v : ℕ) → Joined d (size d 0) u v → EdgeOf (inlined_problem d) u v
  step_edge u v x = subst (Memᴰ (record { from = u; to = v })) (sym (edges_of_lem d I.few)) (joined_edge d (size d) D (edge_leaves d I.facts I.lawful (size d) D) (inlined_rows d) (all_rows d I) u v x)

  pub loop_is_ring : (l : Loop) → Memᴰ l (loops_of (inlined_problem d)) → Ring d (size d) l
  loop_is_ring l m = loop_ring d I.facts (size d) D (inlined_rows d) (all_rows d I) l (subst (Memᴰ l) (loops_of_lem d I.few) m)

  pub ring_is_loop : (l : Loop) → Ring d (size d) l → Memᴰ l (loops_of (inlined_problem d))
  ring_is_loop l r = subst (Memᴰ l) (sym (loops_of_lem d I.few)) (ring_loop d I.facts (size d) D (inlined_rows d) (all_rows d I) l r)

  pub last_is : suc (last_vertex (inlined_problem d)) ≡ size d 0
  unfolding inlined_problem
  last_is = omega (arith, (all_rows d I).count, end_stack d (size d) D [])

  -- The one problem's vertices show what the states show.
  copied_shown : (s : State) → ((copied d (row_of d (size d) s)).function ≡ (shown d s).function) × ((copied d (row_of d (size d) s)).cost.0 ≡ (shown d s).own)
  unfolding row_of
  copied_shown (spot f v c) = (refl, refl)

  vertex_shown : (i : ℕ) → i < size d 0 → get_or (vertices_of (inlined_problem d)) i zero_vertex ≡ copied d (row_of d (size d) (at d i))
  vertex_shown i h =
      let low : i < length (inlined_rows d) = omega (arith, (all_rows d I).count) in
      vertex_of_lem d I.few i low ∙ ap (copied d) ((all_rows d I).are i low)

  -- Its functions are the drawn ones.
  function_shown : (f : ℕ) → f < drawn_functions d → get_or (functions_of (inlined_problem d)) f zero_function ≡ get_or (functions_of (graph_of d f)) f zero_function
  unfolding graph_of
  function_shown f h =
      let few = I.facts.functions in
      function_of d I.few few f h ∙ sym (get_or-take-table (drawn_functions d) places.most_functions (λ i. drawn_function d f) f zero_function few h)

  pub labelled : Labelled d (size d) (inlined_problem d)
  labelled =
      record {
        function = λ i h. ap (λ (x : Vertex). x.function) (vertex_shown i h) ∙ (copied_shown (at d i)).0;
        own = λ i h. ap (λ (x : Vertex). x.cost.0) (vertex_shown i h) ∙ (copied_shown (at d i)).1;
        load = λ f h. ap (λ (x : Function). x.load.0) (function_shown f h);
        check = λ f h. ap (λ (x : Function). x.check.0) (function_shown f h);
      }
