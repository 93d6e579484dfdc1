-- A drawn graph's used items, stored in file order with their counts into zeros, are the numbers of a problem that is the graph but for spare places.
use Prim.Native.Nat.{ℕ, ◌<◌, min}
use Rattle.model.specs.Refusals.{Verdict}
use mathlib.Core.Path.{◌≡◌, refl, sym, ap, ◌∙◌}
use mathlib.Core.List.{List, flat_map}
use native.Mathlib.Omega.{arith}
use lib.ListN.{length, get_or, set, take, replicate, length-take}
use lib.Seq.{sets, ext_get_or, get_or-take}
use Rattle.model.specs.Zero.{zero_function, zero_vertex, zero_edge, zero_loop}
use Rattle.model.specs.Places as places
use Rattle.model.specs.Numbers.{table, in_places, function_numbers, vertex_numbers, edge_numbers, loop_numbers, numbers_in, edition_of, problem_of, Sized}
use Rattle.model.specs.Verdicts.{judge_problem}
use Rattle.model.specs.Operations.{SameProblem}
use Rattle.model.specs.Drawings.{drawn_scratchpad, drawn_functions, drawn_count, drawn_edges, drawn_loops, drawn_function, drawn_vertex, drawn_edge, drawn_loop, graph_of}
use Rattle.model.proofs.Lists.{length-table, get_or-table}
use Rattle.numbers.specs.InParts.{in_parts}
use Rattle.numbers.specs.Numbered.{Numbered, Stored}
use Rattle.numbers.proofs.InParts.{stored_parts}
use Rattle.numbers.proofs.Assembled.{no_edition, edition_put}
use Rattle.spare.proofs.Checks.{same_problem}
use Rattle.checks.specs.Steps.{judge_numbers}
use Rattle.checks.proofs.Opened.{judges_problem}
use Rattle.drawn_graphs.specs.Used.{used_graph}

-- The used items of a table, in its places, are what the count takes of the table.
take_used : {A : Type 0} (count n : ℕ) (spare : A) (at : ℕ → A) → take count (in_places n spare (table (min count n) at)) ≡ take count (table n at)
take_used count n spare at =
    let placed = in_places n spare (table (min count n) at) in
    let long : length placed ≡ length (table n at) = length-table n (λ i. get_or (table (min count n) at) i spare) ∙ sym (length-table n at) in
    ext_get_or spare (take count placed) (take count (table n at))
    (length-take count placed ∙ ap (min count) long ∙ sym (length-take count (table n at)))
    (λ i h.
    let few : i < min count n = omega (arith, length-take count placed, long, length-table n at) in
    let below : i < count = omega arith in
    get_or-take count placed i spare below
    ∙ get_or-table n (λ j. get_or (table (min count n) at) j spare) i spare (omega arith)
    ∙ get_or-table (min count n) at i spare few
    ∙ sym (get_or-take count (table n at) i spare below ∙ get_or-table n at i spare (omega arith)))

module _ (d : List ℕ) (f : ℕ) where
  used_same : SameProblem (used_graph d f) (graph_of d f)
  unfolding used_graph graph_of
  used_same =
      record {
        scratchpad = refl;
        function_count = refl;
        functions = take_used (drawn_functions d) places.most_functions zero_function (λ i. drawn_function d f);
        vertex_count = refl;
        vertices = take_used (drawn_count d f) places.most_vertices zero_vertex (drawn_vertex d f);
        edge_count = refl;
        edges = take_used (drawn_edges d f) places.most_edges zero_edge (drawn_edge d f);
        loop_count = refl;
        loops = take_used (drawn_loops d f) places.most_loops zero_loop (drawn_loop d f);
      }

  graph_sized : Sized (graph_of d f)
  unfolding graph_of
  graph_sized =
      record {
        functions = length-table places.most_functions (λ i. drawn_function d f);
        vertices = length-table places.most_vertices (drawn_vertex d f);
        edges = length-table places.most_edges (drawn_edge d f);
        loops = length-table places.most_loops (drawn_loop d f);
      }

  used_sized : Sized (used_graph d f)
  unfolding used_graph
  used_sized =
      record {
        functions = length-table places.most_functions _;
        vertices = length-table places.most_vertices _;
        edges = length-table places.most_edges _;
        loops = length-table places.most_loops _;
      }

  module _ {scratchpad functions vertices edges loops : ℕ} {l₀ l₁ l₂ l₃ l₄ l₅ : List ℕ} where
    pub graph_filled :
        l₀ ≡ replicate places.end 0 →
        scratchpad ≡ drawn_scratchpad d →
        functions ≡ drawn_functions d →
        vertices ≡ drawn_count d f →
        edges ≡ drawn_edges d f →
        loops ≡ drawn_loops d f →
        Stored function_numbers (min functions places.most_functions) places.size (table (min functions places.most_functions) (λ i. drawn_function d f)) (set (set l₀ places.scratchpad scratchpad) places.function_count functions) l₁ →
        Stored vertex_numbers (min vertices places.most_vertices) places.function (table (min vertices places.most_vertices) (drawn_vertex d f)) (set l₁ places.vertex_count vertices) l₂ →
        Stored edge_numbers (min edges places.most_edges) places.from (table (min edges places.most_edges) (drawn_edge d f)) (set l₂ places.edge_count edges) l₃ →
        Stored loop_numbers (min loops places.most_loops) places.header (table (min loops places.most_loops) (drawn_loop d f)) (set l₃ places.loop_count loops) l₄ →
        l₅ ≡ set l₄ places.edition (edition_of (problem_of l₄)) → Numbered (used_graph d f) l₅
    unfolding used_graph
    graph_filled zeros pad functions_are vertices_are edges_are loops_are first second third fourth put =
        let fs = table (min functions places.most_functions) (λ i. drawn_function d f) in
        let vs = table (min vertices places.most_vertices) (drawn_vertex d f) in
        let es = table (min edges places.most_edges) (drawn_edge d f) in
        let ls = table (min loops places.most_loops) (drawn_loop d f) in
        let is : l₄ ≡ numbers_in 0 (in_parts scratchpad functions fs vertices vs edges es loops ls) =
        fourth.is
        ∙ ap (λ (l : List ℕ). sets (set l places.loop_count loops) places.header (flat_map loop_numbers ls))
        (third.is
        ∙ ap (λ (l : List ℕ). sets (set l places.edge_count edges) places.from (flat_map edge_numbers es))
        (second.is
        ∙ ap (λ (l : List ℕ). sets (set l places.vertex_count vertices) places.function (flat_map vertex_numbers vs))
        (first.is
        ∙ ap (λ (l : List ℕ). sets (set (set l places.scratchpad scratchpad) places.function_count functions) places.size (flat_map function_numbers fs)) (zeros ∙ no_edition))))
        ∙ stored_parts 0 scratchpad functions fs vertices vs edges es loops ls
        (omega (arith, length-table (min functions places.most_functions) (λ i. drawn_function d f))) (omega (arith, length-table (min vertices places.most_vertices) (drawn_vertex d f)))
        (omega (arith, length-table (min edges places.most_edges) (drawn_edge d f))) (omega (arith, length-table (min loops places.most_loops) (drawn_loop d f))) in
        edition_put (used_graph d f) used_sized 0 l₄ l₅
        (is
        ∙ (λ i. numbers_in 0 (in_parts (pad i)
        (functions_are i) (table (min (functions_are i) places.most_functions) (λ k. drawn_function d f))
        (vertices_are i) (table (min (vertices_are i) places.most_vertices) (drawn_vertex d f))
        (edges_are i) (table (min (edges_are i) places.most_edges) (drawn_edge d f))
        (loops_are i) (table (min (loops_are i) places.most_loops) (drawn_loop d f)))))
        put

  -- So the checks say of the one what they say of the other.
  pub used_judged : (l : List ℕ) → Numbered (used_graph d f) l → (v : Verdict) → v ≡ judge_numbers l → v ≡ judge_problem (graph_of d f)
  used_judged l numbered v is =
      judges_problem (used_graph d f) l numbered v is ∙ same_problem (used_graph d f) (graph_of d f) numbered.sized graph_sized used_same
