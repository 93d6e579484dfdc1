-- The inlined problem's numbers keep document 01's field table: 3 and 4 do not apply.
use Prim.Native.Nat.{ℕ, ◌+◌, ◌≤◌, ◌<◌}
use mathlib.Core.Path.{◌≡◌, refl, ap, ◌∙◌}
use mathlib.Core.List.{List}
use native.Mathlib.Omega.{arith}
use lib.ListN.{length, get_or}
use Rattle.model.specs.declared.Edge.{Edge}
use Rattle.model.specs.declared.Loop.{Loop}
use Rattle.model.specs.declared.Vertex.{Vertex}
use Rattle.model.specs.declared.Function.{Function}
use Rattle.model.specs.declared.Row.{Row}
use Rattle.model.specs.Zero.{zero_function, zero_vertex, zero_edge, zero_loop}
use Rattle.model.specs.Places as places
use Rattle.model.specs.Limits.{most_cycles, most_visits}
use Rattle.model.specs.Graph.{edge, loop}
use Rattle.model.specs.Numbers.{table, edition_of, numbers_of, function_at, vertex_at, edge_at, loop_at}
use Rattle.model.specs.Drawings.{drawn_functions, drawn_function}
use Rattle.model.specs.Inlining.{row_at, inlined_edges, inlined_loops}
use Rattle.model.specs.Inlined.{inlined_rows, copied, inlined_problem}
use Rattle.model.proofs.Lists.{get_or-table, mem-get_or}
use Rattle.facts.specs.Fields.{FieldFacts}
use Rattle.numbers.proofs.At as at_place
use Rattle.numbers.proofs.Written.{edition_limits, first_unchecked}
use Rattle.roundtrip.proofs.Editions.{own_edition, check_number}
use Rattle.drawings.specs.Facts.{DrawingFacts}
use Rattle.calls.proofs.States.{State, spot, nobody, Valid, at, Drawn}
use Rattle.calls.proofs.Number.{fits_known, spotted}
use Rattle.calls.proofs.Runs.{Joined, below}
use Rattle.calls.proofs.Members.{every_loop, vertex_cost}
use Rattle.calls.proofs.Stretch.{Ring, stretch}
use Rattle.calls.proofs.Lawful.{Lawful, DrawnLawful}
use Rattle.calls.proofs.Rules.{inlined_lawful}
use Rattle.inlined.proofs.Ordered.{ascending_pair}
use Rattle.inlined.proofs.RowsAre.{row_of}
use Rattle.inlined.proofs.Places.{Whole, whole}
use Rattle.inlined.proofs.EdgesAre.{edge_joined}
use Rattle.inlined.proofs.EdgesAscend as edges
use Rattle.inlined.proofs.EdgesAscend.{is_before, edges_ascend}
use Rattle.inlined.proofs.LoopsAre as loops
use Rattle.inlined.proofs.LoopsAre.{loop_ring, loops_ascend}
use Rattle.inlined.proofs.Parts.{Few, sized}
use Rattle.inlined.proofs.Rules.{edge_leaves}

module _ (d : List ℕ) (F : Few d) where
  abbrev l : List ℕ
  l = numbers_of (inlined_problem d)

  -- Each item at its place.
  function_is : drawn_functions d ≤ places.most_functions → (i : ℕ) → i < drawn_functions d → function_at l i ≡ drawn_function d i
  unfolding inlined_problem
  function_is few i h =
      at_place.function_is (edition_of (inlined_problem d)) (inlined_problem d) (sized d) i (omega arith)
      ∙ get_or-table places.most_functions (λ k. get_or (table (drawn_functions d) (drawn_function d)) k zero_function) i zero_function (omega arith)
      ∙ get_or-table (drawn_functions d) (drawn_function d) i zero_function h

  vertex_is : (i : ℕ) → i < length (inlined_rows d) → vertex_at l i ≡ copied d (row_at (inlined_rows d) i)
  unfolding inlined_problem
  vertex_is i h =
      let all = table (length (inlined_rows d)) (λ k. copied d (row_at (inlined_rows d) k)) in
      at_place.vertex_is (edition_of (inlined_problem d)) (inlined_problem d) (sized d) i (omega (arith, F.rows))
      ∙ get_or-table places.most_vertices (λ k. get_or all k zero_vertex) i zero_vertex (omega (arith, F.rows))
      ∙ get_or-table (length (inlined_rows d)) (λ k. copied d (row_at (inlined_rows d) k)) i zero_vertex h

  edge_is : (i : ℕ) → i < length (inlined_edges d (inlined_rows d)) → edge_at l i ≡ edge (inlined_edges d (inlined_rows d)) i
  unfolding inlined_problem
  edge_is i h =
      at_place.edge_is (edition_of (inlined_problem d)) (inlined_problem d) (sized d) i (omega (arith, F.edges))
      ∙ get_or-table places.most_edges (λ k. get_or (inlined_edges d (inlined_rows d)) k zero_edge) i zero_edge (omega (arith, F.edges))

  loop_is : (i : ℕ) → i < length (inlined_loops d (inlined_rows d)) → loop_at l i ≡ loop (inlined_loops d (inlined_rows d)) i
  unfolding inlined_problem
  loop_is i h =
      at_place.loop_is (edition_of (inlined_problem d)) (inlined_problem d) (sized d) i (omega (arith, F.loops))
      ∙ get_or-table places.most_loops (λ k. get_or (inlined_loops d (inlined_rows d)) k zero_loop) i zero_loop (omega (arith, F.loops))

  scratchpad_is : get_or l places.scratchpad 0 ≡ get_or d 0 0
  unfolding inlined_problem
  scratchpad_is = at_place.scratchpad_is (edition_of (inlined_problem d)) (inlined_problem d) (sized d)

  functions_are : get_or l places.function_count 0 ≡ drawn_functions d
  unfolding inlined_problem
  functions_are = at_place.functions_are (edition_of (inlined_problem d)) (inlined_problem d) (sized d)

  vertices_are : get_or l places.vertex_count 0 ≡ length (inlined_rows d)
  unfolding inlined_problem
  vertices_are = at_place.vertices_are (edition_of (inlined_problem d)) (inlined_problem d) (sized d)

  edges_are : get_or l places.edge_count 0 ≡ length (inlined_edges d (inlined_rows d))
  unfolding inlined_problem
  edges_are = at_place.edges_are (edition_of (inlined_problem d)) (inlined_problem d) (sized d)

  loops_are : get_or l places.loop_count 0 ≡ length (inlined_loops d (inlined_rows d))
  unfolding inlined_problem
  loops_are = at_place.loops_are (edition_of (inlined_problem d)) (inlined_problem d) (sized d)

  module _ (facts : DrawingFacts d) (L : DrawnLawful d) (size : ℕ → ℕ) (D : Drawn d size) where
    abbrev rows : List Row
    rows = inlined_rows d

    W : Whole d size D (inlined_rows d)
    W = whole d size D F.rows

    R : Lawful (size 0) (Joined d (size 0)) (Ring d size)
    R = inlined_lawful d size D L

    -- What holds of each row, each edge and each loop.
    copied_fits : (s : State) → Valid d s → ((copied d (row_of d size s)).function < drawn_functions d) × ((copied d (row_of d size s)).cost.0 ≤ most_cycles)
    unfolding row_of
    copied_fits (spot f v c) p = let known = fits_known d size D f c p.1 in (known, rw (vertex_cost d facts f known v p.0) ((facts.drawn f known).cost v p.0))

    row_fits : (i : ℕ) → i < length rows → ((copied d (row_at rows i)).function < drawn_functions d) × ((copied d (row_at rows i)).cost.0 ≤ most_cycles)
    row_fits i h = rw (W.are i h) (copied_fits (at d i) (spotted d size D i (omega (arith, W.count))).valid)

    edge_fits : (i : ℕ) → i < length (inlined_edges d rows) → Joined d (size 0) (edge (inlined_edges d rows) i).from (edge (inlined_edges d rows) i).to
    edge_fits i h = edge_joined d size D (edge_leaves d facts L size D) rows W _ _ (mem-get_or (inlined_edges d rows) i zero_edge h)

    ring : (i : ℕ) → i < length (inlined_loops d rows) → Ring d size (loop (inlined_loops d rows) i)
    ring i h = loop_ring d facts size D rows W (loop (inlined_loops d rows) i) (mem-get_or (inlined_loops d rows) i zero_loop h)

    abbrev InBounds : Loop → Type 0
    InBounds x = (1 ≤ x.bound) × (x.bound ≤ most_visits)

    ring_bounds : (x : Loop) → Ring d size x → InBounds x
    unfolding stretch
    ring_bounds x (f, k, c, p, m, e) =
        let known = fits_known d size D f c p.1 in
        rw e (every_loop d facts f known InBounds (λ i h. ((facts.drawn f known).bound_low i h, (facts.drawn f known).bound_high i h)) k m)

    pub field_facts : FieldFacts (numbers_of (inlined_problem d))
    field_facts =
        let edition_is = own_edition (edition_of (inlined_problem d)) (inlined_problem d) in
        let limits = edition_limits (inlined_problem d) in
        record {
          edition_low = omega (arith, edition_is, limits.0);
          edition_high = omega (arith, edition_is, limits.1);
          scratchpad_low = rw scratchpad_is facts.scratchpad_low;
          scratchpad_high = rw scratchpad_is facts.scratchpad_high;
          some_function = rw functions_are facts.some_function;
          functions = rw functions_are facts.functions;
          some_vertex = omega (arith, vertices_are, W.count, below d size D (spot 0 0 nobody) (D.some_vertex 0 D.first, refl));
          vertices = rw vertices_are F.rows;
          edges = rw edges_are F.edges;
          loops = rw loops_are F.loops;
          size = λ i h.
              let k : i < drawn_functions d = omega (arith, functions_are) in
              let e = ap (λ (f : Function). f.size.0) (function_is facts.functions i k) in
              (rw e (facts.drawn i k).size_low, rw e (facts.drawn i k).size_high);
          load = λ i h.
              let k : i < drawn_functions d = omega (arith, functions_are) in
              rw (ap (λ (f : Function). f.load.0) (function_is facts.functions i k)) (facts.drawn i k).load;
          check = λ i h.
              let k : i < drawn_functions d = omega (arith, functions_are) in
              rw (ap (λ (f : Function). f.check.0) (function_is facts.functions i k)) (facts.drawn i k).check;
          unchecked = λ one i h.
              check_number (edition_of (inlined_problem d)) (inlined_problem d) (sized d) i (omega (arith, at_place.functions_are (edition_of (inlined_problem d)) (inlined_problem d) (sized d)))
              (omega (arith, functions_are, facts.functions))
              ∙ first_unchecked (inlined_problem d) (omega (arith, edition_is)) i;
          function = λ i h.
              let k : i < length rows = omega (arith, vertices_are) in
              rw (functions_are, ap (λ (v : Vertex). v.function) (vertex_is i k)) (row_fits i k).0;
          cost = λ i h.
              let k : i < length rows = omega (arith, vertices_are) in
              rw (ap (λ (v : Vertex). v.cost.0) (vertex_is i k)) (row_fits i k).1;
          from = λ i h.
              let k : i < length (inlined_edges d rows) = omega (arith, edges_are) in
              let e = ap (λ (x : Edge). x.from) (edge_is i k) in
              omega (arith, (edge_fits i k).0, W.count, vertices_are);
          to = λ i h.
              let k : i < length (inlined_edges d rows) = omega (arith, edges_are) in
              let e = ap (λ (x : Edge). x.to) (edge_is i k) in
              omega (arith, (edge_fits i k).1, W.count, vertices_are);
          ascend = λ i h.
              let k : i + 1 < length (inlined_edges d rows) = omega (arith, edges_are) in
              let a = edge_is i (omega arith) in
              let b = edge_is (i + 1) k in
              rw (ap (λ (x : Edge). x.from) a, ap (λ (x : Edge). x.to) a, ap (λ (x : Edge). x.from) b, ap (λ (x : Edge). x.to) b)
              (is_before (edge (inlined_edges d rows) i) (edge (inlined_edges d rows) (i + 1))
              (ascending_pair edges.Before zero_edge (inlined_edges d rows) i (i + 1) (edges_ascend d facts size D (edge_leaves d facts L size D) rows W) (omega arith) k));
          header = λ i h.
              let k : i < length (inlined_loops d rows) = omega (arith, loops_are) in
              let e = ap (λ (x : Loop). x.header) (loop_is i k) in
              let e' = ap (λ (x : Loop). x.last) (loop_is i k) in
              omega (arith, R.wide (loop (inlined_loops d rows) i) (ring i k));
          last = λ i h.
              let k : i < length (inlined_loops d rows) = omega (arith, loops_are) in
              let e = ap (λ (x : Loop). x.last) (loop_is i k) in
              omega (arith, R.short (loop (inlined_loops d rows) i) (ring i k), W.count, vertices_are);
          bound_low = λ i h.
              let k : i < length (inlined_loops d rows) = omega (arith, loops_are) in
              rw (ap (λ (x : Loop). x.bound) (loop_is i k)) (ring_bounds (loop (inlined_loops d rows) i) (ring i k)).0;
          bound_high = λ i h.
              let k : i < length (inlined_loops d rows) = omega (arith, loops_are) in
              rw (ap (λ (x : Loop). x.bound) (loop_is i k)) (ring_bounds (loop (inlined_loops d rows) i) (ring i k)).1;
          headers = λ i h.
              let k : i + 1 < length (inlined_loops d rows) = omega (arith, loops_are) in
              let a = ap (λ (x : Loop). x.header) (loop_is i (omega arith)) in
              let b = ap (λ (x : Loop). x.header) (loop_is (i + 1) k) in
              omega (arith, ascending_pair loops.Before zero_loop (inlined_loops d rows) i (i + 1) (loops_ascend d facts size D rows W) (omega arith) k);
        }
