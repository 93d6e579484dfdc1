-- A drawing that passed 3, 4, 6 to 9 and 20 has its facts: each drawn graph passed document 01's checks, and its numbers are the drawn ones.
use Prim.Native.Nat.{ℕ, ◌+◌, ◌-◌, ◌*◌, ◌≤◌, ◌<◌}
use Rattle.std.specs.Prelude.{Err, Ok, Option, Some, None}
use Rattle.model.specs.Refusals.{Verdict}
use mathlib.Core.Path.{◌≡◌, refl, sym, ap, subst, ◌∙◌}
use mathlib.Core.List.{List}
use mathlib.Core.Bool.{true, false, ◌&&◌}
use native.Mathlib.Omega.{arith}
use lib.ListN.{get_or}
use lib.Dec.{leb}
use borrow.Author.Tests.{leb-true, le-leb}
use Rattle.model.specs.declared.Refusal.TheVariants.{LastCalls}
use Rattle.model.specs.declared.Vertex.{Vertex}
use Rattle.model.specs.declared.Edge.{Edge}
use Rattle.model.specs.declared.Loop.{Loop}
use Rattle.model.specs.declared.Function.{Function}
use Rattle.model.specs.declared.Problem.{Problem}
use Rattle.model.specs.Zero.{zero_loop}
use Rattle.model.specs.Places as places
use Rattle.model.specs.Rows as rows
use Rattle.model.specs.Limits.{most_cycles}
use Rattle.model.specs.Table.{limits, least, greatest}
use Rattle.model.specs.Numbers.{numbers_of, vertex_at, edge_at, loop_at}
use Rattle.model.specs.Graph.{holds, edges_of, loops_of}
use Rattle.model.specs.Search.{exists_below}
use Rattle.model.specs.File.{check_fields, edge_before}
use Rattle.model.specs.Operations.{check_problem}
use Rattle.model.specs.Verdicts.{judge_problem}
use Rattle.model.specs.Drawings.{drawn_scratchpad, drawn_functions, drawn_count, drawn_edges, drawn_loops, called_by, or_first, drawn_vertex, drawn_edge, drawn_loop, graph_of}
use Rattle.model.specs.Inlined.{is_refused, calls_some, in_limits, bad_graph, judge_head, judge_graphs, judge_last, last_calls, first_bad, placed_in}
use Rattle.model.proofs.Answers.{refused_not_accepted}
use Rattle.model.proofs.Cases.{by_bool, by_order, and_left, and_right, true_not_false}
use Rattle.model.proofs.Lists.{get_or-take-table, length-take-table, mem-get_or}
use Rattle.model.proofs.Search.{none_below, lowest_passes}
use Rattle.facts.specs.Fields.{FieldFacts}
use Rattle.facts.proofs.Facts.{field_facts}
use Rattle.graph.proofs.Facts.{GraphFacts, graph_facts, kept}
use Rattle.checks.proofs.Opened.{Good, good, accepted_as}
use Rattle.drawings.specs.Facts.{DrawnFacts, DrawingFacts}
use Rattle.drawings.proofs.Numbers.{drawn_numbers, functions_are, vertices_are, edges_are, loops_are, function_is, vertex_is, edge_is, loop_is}

-- A verdict that does not refuse accepts.
not_refused : (v : Verdict) → is_refused v ≡ false → v ≡ Ok tt
not_refused (Ok tt) e = refl
not_refused (Err r) e = true_not_false e

no_call : (o : Option ℕ) → calls_some o ≡ false → o ≡ None
no_call None e = refl
no_call (Some g) e = true_not_false e

-- A problem that passes its checks has the facts of the fields and of the graph.
pub record ProblemFacts (p : Problem) : Type 0 where
  pub fields : FieldFacts (numbers_of p)
  pub graph : GraphFacts p.vertex_count (edges_of p) (loops_of p)

pub problem_facts : (p : Problem) → judge_problem p ≡ Ok tt → ProblemFacts p
unfolding judge_problem check_problem
problem_facts p e =
    let (need, done) = accepted_as (check_problem p) e in
    let g : Good (check_fields (numbers_of p)) p need = good (check_fields (numbers_of p)) p need done in
    record { fields = field_facts (numbers_of p) need g.fields; graph = graph_facts p.vertex_count (edges_of p) (loops_of p) g.graph }

module _ (d : List ℕ) (graphs : judge_graphs d ≡ Ok tt) (f : ℕ) (below : f < drawn_functions d) where
  -- Each drawn graph passes document 01's checks.
  graph_accepted : judge_problem (graph_of d f) ≡ Ok tt
  unfolding judge_graphs
  graph_accepted =
      by_bool (exists_below (drawn_functions d) (bad_graph d))
      (λ e. let bad = lowest_passes (drawn_functions d) (bad_graph d) e in placed (judge_problem (graph_of d (first_bad d))) bad (rw e at graphs))
      (λ e. not_refused (judge_problem (graph_of d f)) (none_below (drawn_functions d) (bad_graph d) e f below))
    where
      placed : {P : Type 0} (v : Verdict) → is_refused v ≡ true → placed_in (first_bad d) v ≡ Ok tt → P
      placed (Ok tt) e q = true_not_false (sym e)
      placed (Err r) e q = refused_not_accepted q

  pub graph_checked : ProblemFacts (graph_of d f)
  graph_checked = problem_facts (graph_of d f) graph_accepted

  -- It keeps the rules 6 to 9.
  pub drawing_graphs : GraphFacts (drawn_count d f) (edges_of (graph_of d f)) (loops_of (graph_of d f))
  unfolding graph_of
  drawing_graphs = graph_checked.graph

  abbrev numbers : List ℕ
  numbers = drawn_numbers d f

  abbrev facts : FieldFacts numbers
  facts = graph_checked.fields

  few_vertices : drawn_count d f ≤ places.most_vertices
  few_vertices = omega (arith, facts.vertices, vertices_are d f)

  few_edges : drawn_edges d f ≤ places.most_edges
  few_edges = omega (arith, facts.edges, edges_are d f)

  few_loops : drawn_loops d f ≤ places.most_loops
  few_loops = omega (arith, facts.loops, loops_are d f)

  module _ (v : ℕ) (h : v < drawn_count d f) where
    vertex_drawn : vertex_at numbers v ≡ drawn_vertex d f v
    vertex_drawn = vertex_is d f v (omega (arith, few_vertices))

    listed_vertex : v < get_or numbers places.vertex_count 0
    listed_vertex = omega (arith, vertices_are d f)

    known : (g : ℕ) → called_by d f v ≡ Some g → g < drawn_functions d
    known g e =
        let called = ap (λ (x : Vertex). x.function) vertex_drawn in
        let first : or_first (called_by d f v) ≡ g = rw e in
        omega (arith, facts.function v listed_vertex, called, first, functions_are d f)

    cost : (drawn_vertex d f v).cost.0 ≤ most_cycles
    cost = omega (arith, facts.cost v listed_vertex, ap (λ (x : Vertex). x.cost.0) vertex_drawn)

  module _ (i : ℕ) (h : i < drawn_edges d f) where
    edge_drawn : edge_at numbers i ≡ drawn_edge d f i
    edge_drawn = edge_is d f i (omega (arith, few_edges))

    listed_edge : i < get_or numbers places.edge_count 0
    listed_edge = omega (arith, edges_are d f)

    from : (drawn_edge d f i).from < drawn_count d f
    from = omega (arith, facts.from i listed_edge, ap (λ (e : Edge). e.from) edge_drawn, vertices_are d f)

    to : (drawn_edge d f i).to < drawn_count d f
    to = omega (arith, facts.to i listed_edge, ap (λ (e : Edge). e.to) edge_drawn, vertices_are d f)

  abbrev Before : Edge → Edge → Type 0
  Before e e' = edge_before e.from e.to e'.from e'.to ≡ true

  ascend : (i : ℕ) → i + 1 < drawn_edges d f → Before (drawn_edge d f i) (drawn_edge d f (i + 1))
  ascend i h =
      subst (λ (e : Edge). Before e (drawn_edge d f (i + 1))) (edge_drawn i (omega arith))
      (subst (Before (edge_at numbers i)) (edge_drawn (i + 1) h) (facts.ascend i (listed_edge (i + 1) h)))

  module _ (i : ℕ) (h : i < drawn_loops d f) where
    loop_drawn : loop_at numbers i ≡ drawn_loop d f i
    loop_drawn = loop_is d f i (omega (arith, few_loops))

    listed_loop : i < get_or numbers places.loop_count 0
    listed_loop = omega (arith, loops_are d f)

    header_is : get_or numbers (places.header + places.loop_width * i) 0 ≡ (drawn_loop d f i).header
    header_is = ap (λ (o : Loop). o.header) loop_drawn

    header : (drawn_loop d f i).header ≤ (drawn_loop d f i).last
    header = omega (arith, facts.header i listed_loop, header_is, ap (λ (o : Loop). o.last) loop_drawn)

    -- A range does not hold the last vertex.
    last : (drawn_loop d f i).last + 1 < drawn_count d f
    unfolding graph_of
    last =
        let inside : (drawn_loop d f i).last < drawn_count d f = omega (arith, facts.last i listed_loop, ap (λ (o : Loop). o.last) loop_drawn, vertices_are d f) in
        let member = mem-get_or (loops_of (graph_of d f)) i zero_loop (omega (arith, length-take-table (drawn_loops d f) places.most_loops (drawn_loop d f) few_loops)) in
        let is = get_or-take-table (drawn_loops d f) places.most_loops (drawn_loop d f) i zero_loop few_loops h in
        let outside : holds (drawn_loop d f i) (drawn_count d f - 1) ≡ false = ap (λ (o : Loop). holds o (drawn_count d f - 1)) (sym is) ∙ drawing_graphs.open_end _ member in
        by_order ((drawn_loop d f i).last + 1) (drawn_count d f) (λ k. k)
        (λ k. true_not_false (sym (simp (le-leb (drawn_loop d f i).header (drawn_count d f - 1) (omega (arith, header)), le-leb (drawn_count d f - 1) (drawn_loop d f i).last (omega arith))) ∙ outside))

    bound_is : get_or numbers (places.bound + places.loop_width * i) 0 ≡ (drawn_loop d f i).bound
    bound_is = ap (λ (o : Loop). o.bound) loop_drawn

  pub drawn_facts : called_by d f (drawn_count d f - 1) ≡ None → DrawnFacts d f
  drawn_facts quiet =
      let first = facts.some_function in
      let size = ap (λ (x : Function). x.size.0) (function_is d f 0 (omega arith)) in
      let load = ap (λ (x : Function). x.load.0) (function_is d f 0 (omega arith)) in
      let check = ap (λ (x : Function). x.check.0) (function_is d f 0 (omega arith)) in
      record {
        size_low = omega (arith, (facts.size 0 first).0, size);
        size_high = omega (arith, (facts.size 0 first).1, size);
        load = omega (arith, facts.load 0 first, load);
        check = omega (arith, facts.check 0 first, check);
        some_vertex = omega (arith, facts.some_vertex, vertices_are d f);
        vertices = few_vertices;
        edges = few_edges;
        loops = few_loops;
        known = λ v g h. known v h g;
        cost = cost;
        from = from;
        to = to;
        ascend = ascend;
        header = header;
        last = last;
        bound_low = λ i h. omega (arith, facts.bound_low i (listed_loop i h), bound_is i h);
        bound_high = λ i h. omega (arith, facts.bound_high i (listed_loop i h), bound_is i h);
        headers = λ i h. omega (arith, facts.headers i (listed_loop (i + 1) h), header_is i (omega arith), header_is (i + 1) h);
        quiet = quiet;
      }

module _ (d : List ℕ) (head : judge_head d ≡ Ok tt) where
  head_limits : (in_limits rows.scratchpad (drawn_scratchpad d) ≡ true) × (in_limits rows.function_count (drawn_functions d) ≡ true)
  unfolding judge_head
  head_limits =
      by_bool (in_limits rows.scratchpad (drawn_scratchpad d) && in_limits rows.function_count (drawn_functions d))
      (λ e. (and_left (in_limits rows.scratchpad (drawn_scratchpad d)) _ e, and_right (in_limits rows.scratchpad (drawn_scratchpad d)) _ e))
      (λ e. refused_not_accepted (rw e at head))

  within_limits : (row v : ℕ) → in_limits row v ≡ true → (least row ≤ v) × (v ≤ greatest row)
  within_limits row v e = (leb-true (least row) v (and_left (leb (least row) v) _ e), leb-true v (greatest row) (and_right (leb (least row) v) _ e))

  pub few_functions : drawn_functions d ≤ places.most_functions
  unfolding limits
  few_functions = (within_limits rows.function_count (drawn_functions d) head_limits.1).1

  pub drawing_facts : judge_graphs d ≡ Ok tt → judge_last d ≡ Ok tt → DrawingFacts d
  unfolding limits judge_last
  drawing_facts graphs last =
      let scratchpad = within_limits rows.scratchpad (drawn_scratchpad d) head_limits.0 in
      let functions = within_limits rows.function_count (drawn_functions d) head_limits.1 in
      record {
        scratchpad_low = scratchpad.0;
        scratchpad_high = scratchpad.1;
        some_function = functions.0;
        functions = few_functions;
        drawn = λ f below. drawn_facts d graphs f below (no_call (called_by d f (drawn_count d f - 1)) (kept (drawn_functions d) (last_calls d) LastCalls last f below));
      }
