-- Clearing the spare places of checked numbers leaves the same problem, with the same verdict on its graph.
use Prim.Native.Nat.{ℕ, ◌+◌, ◌*◌, ◌≤◌, ◌<◌}
use Rattle.std.specs.Prelude.{Ok}
use mathlib.Core.Path.{◌≡◌, sym, ap, subst, ◌∙◌}
use mathlib.Core.List.{List}
use mathlib.Core.Bool.{true}
use native.Mathlib.Omega.{arith}
use lib.ListN.{get_or, take}
use lib.Seq.{ext_get_or}
use Rattle.model.specs.declared.Problem.{Problem}
use Rattle.model.specs.Zero.{bytes, cycles}
use Rattle.model.specs.Table.{bases, base}
use Rattle.model.specs.Numbers.{table, function_at, vertex_at, edge_at, loop_at, edition_of, numbers_of, problem_of, Sized}
use Rattle.model.specs.File.{check_fields, in_use, cleared}
use Rattle.model.specs.Graph.{graph_rules, judge_graph}
use Rattle.model.specs.Operations.{SameProblem, cleared_problem}
use Rattle.model.proofs.Lists.{length-take-table, get_or-take-table}
use Rattle.numbers.proofs.Inverse.{problem_of_numbers}
use Rattle.facts.proofs.Items.{Listed}
use Rattle.facts.proofs.Lists as lists
use Rattle.facts.specs.Fields.{FieldFacts}
use Rattle.facts.proofs.Facts.{field_facts}
use Rattle.facts.proofs.Cleared.{cleared_used}
use Rattle.model.specs.Places as places

-- The verdict on the graph is on the vertices' number, the edges and the loops alone.
pub same_judged : {p q : Problem} → SameProblem p q → judge_graph p ≡ judge_graph q
same_judged same = λ i. graph_rules (same.vertex_count i) (same.edges i) (same.loops i)

-- Two tables that are alike below a count.
same_items : {A : Type 0} (room count count' : ℕ) (f g : ℕ → A) → count ≤ room → count ≡ count' → ((i : ℕ) → i < count → f i ≡ g i) →
    take count (table room f) ≡ take count' (table room g)
same_items room count count' f g h e same =
    rw (← e)
    (ext_get_or (f 0) (take count (table room f)) (take count (table room g)) (length-take-table count room f h ∙ sym (length-take-table count room g h))
    (λ i lt.
    let below : i < count = omega (arith, length-take-table count room f h) in
    get_or-take-table count room f i (f 0) h below ∙ same i below ∙ sym (get_or-take-table count room g i (f 0) h below)))

-- Numbers m that are those of l wherever l has a place in use.
module _ (l m : List ℕ) (facts : FieldFacts l) (kept : (k : ℕ) → in_use l k ≡ true → k < places.end → get_or l k 0 ≡ get_or m k 0) where
  -- A list's count and its items' numbers.
  list_kept : {row width : ℕ} → Listed l row width → base row + width * get_or l (base row) 0 < places.end →
      (k : ℕ) → base row ≤ k → k ≤ base row + width * get_or l (base row) 0 → get_or l k 0 ≡ get_or m k 0
  list_kept list room k low high = kept k (list.used k low high) (omega arith)

  same_numbers : SameProblem (problem_of l) (problem_of m)
  unfolding problem_of bases
  same_numbers =
      let function = list_kept (lists.functions l) (omega (arith, facts.functions)) in
      let vertex = list_kept (lists.vertices l facts.functions) (omega (arith, facts.vertices)) in
      let edge = list_kept (lists.edges l facts.functions facts.vertices) (omega (arith, facts.edges)) in
      let loop = list_kept (lists.loops l facts.functions facts.vertices facts.edges) (omega (arith, facts.loops)) in
      let functions : get_or l places.function_count 0 ≡ get_or m places.function_count 0 = function places.function_count (omega arith) (omega arith) in
      let vertices : get_or l places.vertex_count 0 ≡ get_or m places.vertex_count 0 = vertex places.vertex_count (omega arith) (omega arith) in
      let edges : get_or l places.edge_count 0 ≡ get_or m places.edge_count 0 = edge places.edge_count (omega arith) (omega arith) in
      let loops : get_or l places.loop_count 0 ≡ get_or m places.loop_count 0 = loop places.loop_count (omega arith) (omega arith) in
      record {
        scratchpad = ap bytes (kept places.scratchpad (lists.single l places.scratchpad (omega arith)) (omega arith));
        function_count = functions;
        functions =
            same_items places.most_functions _ _ (function_at l) (function_at m) facts.functions functions
            (λ i h t.
            record {
              size = bytes (function (places.size + places.function_width * i) (omega arith) (omega arith) t);
              load = cycles (function (places.load + places.function_width * i) (omega arith) (omega arith) t);
              check = cycles (function (places.check + places.function_width * i) (omega arith) (omega arith) t);
            });
        vertex_count = vertices;
        vertices =
            same_items places.most_vertices _ _ (vertex_at l) (vertex_at m) facts.vertices vertices
            (λ i h t.
            record {
              function = vertex (places.function + places.vertex_width * i) (omega arith) (omega arith) t;
              cost = cycles (vertex (places.cost + places.vertex_width * i) (omega arith) (omega arith) t);
            });
        edge_count = edges;
        edges =
            same_items places.most_edges _ _ (edge_at l) (edge_at m) facts.edges edges
            (λ i h t.
            record {
              from = edge (places.from + places.edge_width * i) (omega arith) (omega arith) t;
              to = edge (places.to + places.edge_width * i) (omega arith) (omega arith) t;
            });
        loop_count = loops;
        loops =
            same_items places.most_loops _ _ (loop_at l) (loop_at m) facts.loops loops
            (λ i h t.
            record {
              header = loop (places.header + places.loop_width * i) (omega arith) (omega arith) t;
              last = loop (places.last + places.loop_width * i) (omega arith) (omega arith) t;
              bound = loop (places.bound + places.loop_width * i) (omega arith) (omega arith) t;
            });
      }

pub same_checked : (p : Problem) → Sized p → (need : ℕ) → check_fields (numbers_of p) ≡ Ok need → SameProblem p (cleared_problem p)
same_checked p sized need ok =
    let l : List ℕ = numbers_of p in
    subst (λ (q : Problem). SameProblem q (problem_of (cleared l))) (problem_of_numbers (edition_of p) p sized)
    (same_numbers l (cleared l) (field_facts l need ok) (λ k u h. sym (cleared_used l k u h)))
