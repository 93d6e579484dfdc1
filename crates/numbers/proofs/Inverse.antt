-- A problem's numbers in an edition say the problem, and the problem of a full list of numbers has those numbers in their edition.
use Prim.Native.Nat.{ℕ}
use mathlib.Core.Path.{◌≡◌, refl, sym, ap, ◌∙◌}
use mathlib.Core.List.{List, [], ◌∷◌, ◌++◌, flat_map, append-nil}
use native.Mathlib.Omega.{arith}
use lib.ListN.{length, get_or, drop, length-append, drop_of_length-le}
use Rattle.model.specs.declared.Function.{Function}
use Rattle.model.specs.declared.Vertex.{Vertex}
use Rattle.model.specs.declared.Edge.{Edge}
use Rattle.model.specs.declared.Loop.{Loop}
use Rattle.model.specs.declared.Problem.{Problem}
use Rattle.model.specs.Zero.{bytes, cycles, zero_function, zero_vertex, zero_edge, zero_loop}
use Rattle.model.specs.Numbers.{function_numbers, vertex_numbers, edge_numbers, loop_numbers, table, function_at, vertex_at, edge_at, loop_at, numbers_in, problem_of, Sized}
use Rattle.model.specs.File.{edition_in}
use Rattle.model.proofs.Lists.{length-table, is_table}
use Rattle.numbers.proofs.Parts.{function_part, vertex_part, edge_part, loop_part, in_parts, Lengths, lengths}
use Rattle.numbers.proofs.Items.{drop_behind, head_of, item_number, flat_table, two_numbers, three_numbers, cons_drop}
use Rattle.model.specs.Places as places

pub numbers_length : (edition : ℕ) (p : Problem) → Sized p → length (numbers_in edition p) ≡ places.end
numbers_length edition p sized =
    let long : Lengths edition p = lengths edition p sized in
    rw (in_parts edition p) (simp length-append (omega arith))

pub sized_problem : (l : List ℕ) → Sized (problem_of l)
unfolding problem_of
sized_problem l =
    record {
      functions = length-table places.most_functions (function_at l);
      vertices = length-table places.most_vertices (vertex_at l);
      edges = length-table places.most_edges (edge_at l);
      loops = length-table places.most_loops (loop_at l);
    }

-- What each list of numbers says of its items.
module _ (l : List ℕ) where
  functions_back : (xs : List Function) (ys : List ℕ) → length xs ≡ places.most_functions → drop places.size l ≡ flat_map function_numbers xs ++ ys → xs ≡ table places.most_functions (function_at l)
  functions_back xs ys long e =
      let number = item_number function_numbers places.function_width (λ a. refl) l places.size xs ys e in
      is_table places.most_functions (function_at l) zero_function xs long
      (λ k h.
      sym
      (λ i.
      record {
        size = bytes (number k 0 zero_function (omega arith) (omega arith) i);
        load = cycles (number k 1 zero_function (omega arith) (omega arith) i);
        check = cycles (number k 2 zero_function (omega arith) (omega arith) i);
      }))

  vertices_back : (xs : List Vertex) (ys : List ℕ) → length xs ≡ places.most_vertices → drop places.function l ≡ flat_map vertex_numbers xs ++ ys → xs ≡ table places.most_vertices (vertex_at l)
  vertices_back xs ys long e =
      let number = item_number vertex_numbers places.vertex_width (λ a. refl) l places.function xs ys e in
      is_table places.most_vertices (vertex_at l) zero_vertex xs long
      (λ k h.
      sym
      (λ i.
      record {
        function = number k 0 zero_vertex (omega arith) (omega arith) i;
        cost = cycles (number k 1 zero_vertex (omega arith) (omega arith) i);
      }))

  edges_back : (xs : List Edge) (ys : List ℕ) → length xs ≡ places.most_edges → drop places.from l ≡ flat_map edge_numbers xs ++ ys → xs ≡ table places.most_edges (edge_at l)
  edges_back xs ys long e =
      let number = item_number edge_numbers places.edge_width (λ a. refl) l places.from xs ys e in
      is_table places.most_edges (edge_at l) zero_edge xs long
      (λ k h.
      sym
      (λ i.
      record {
        from = number k 0 zero_edge (omega arith) (omega arith) i;
        to = number k 1 zero_edge (omega arith) (omega arith) i;
      }))

  loops_back : (xs : List Loop) (ys : List ℕ) → length xs ≡ places.most_loops → drop places.header l ≡ flat_map loop_numbers xs ++ ys → xs ≡ table places.most_loops (loop_at l)
  loops_back xs ys long e =
      let number = item_number loop_numbers places.loop_width (λ a. refl) l places.header xs ys e in
      is_table places.most_loops (loop_at l) zero_loop xs long
      (λ k h.
      sym
      (λ i.
      record {
        header = number k 0 zero_loop (omega arith) (omega arith) i;
        last = number k 1 zero_loop (omega arith) (omega arith) i;
        bound = number k 2 zero_loop (omega arith) (omega arith) i;
      }))

pub problem_of_numbers : (edition : ℕ) (p : Problem) → Sized p → problem_of (numbers_in edition p) ≡ p
unfolding problem_of
problem_of_numbers edition p sized =
    let l : List ℕ = numbers_in edition p in
    let long : Lengths edition p = lengths edition p sized in
    let at_functions : drop places.size l ≡ flat_map function_numbers p.functions ++ (vertex_part p ++ (edge_part p ++ loop_part p)) =
    ap (λ (r : List ℕ). drop places.size r) (in_parts edition p) in
    let at_vertices : drop places.vertex_count l ≡ vertex_part p ++ (edge_part p ++ loop_part p) = drop_behind l (function_part edition p) _ places.edition places.vertex_count (in_parts edition p) (omega arith) in
    let at_edges : drop places.edge_count l ≡ edge_part p ++ loop_part p = drop_behind l (vertex_part p) _ places.vertex_count places.edge_count at_vertices (omega arith) in
    let at_loops : drop places.loop_count l ≡ loop_part p = drop_behind l (edge_part p) _ places.edge_count places.loop_count at_edges (omega arith) in
    λ i.
    record {
      scratchpad = bytes (get_or (in_parts edition p i) places.scratchpad 0);
      function_count = get_or (in_parts edition p i) places.function_count 0;
      functions = sym (functions_back l p.functions _ sized.functions at_functions) i;
      vertex_count = head_of l places.vertex_count _ _ at_vertices i;
      vertices = sym (vertices_back l p.vertices _ sized.vertices (drop_behind l (p.vertex_count ∷ []) _ places.vertex_count places.function at_vertices refl)) i;
      edge_count = head_of l places.edge_count _ _ at_edges i;
      edges = sym (edges_back l p.edges _ sized.edges (drop_behind l (p.edge_count ∷ []) _ places.edge_count places.from at_edges refl)) i;
      loop_count = head_of l places.loop_count _ _ at_loops i;
      loops =
          sym
          (loops_back l p.loops [] sized.loops
          (drop_behind l (p.loop_count ∷ []) _ places.loop_count places.header at_loops refl ∙ sym (append-nil (flat_map loop_numbers p.loops))))
          i;
    }

pub numbers_of_problem : (l : List ℕ) → length l ≡ places.end → numbers_in (edition_in l) (problem_of l) ≡ l
unfolding numbers_in problem_of
numbers_of_problem l long =
    let fs : List ℕ = flat_map function_numbers (table places.most_functions (function_at l)) in
    let vs : List ℕ = flat_map vertex_numbers (table places.most_vertices (vertex_at l)) in
    let es : List ℕ = flat_map edge_numbers (table places.most_edges (edge_at l)) in
    let os : List ℕ = flat_map loop_numbers (table places.most_loops (loop_at l)) in
    let from_functions : fs ++ drop places.vertex_count l ≡ drop places.size l =
    flat_table function_numbers places.function_width (λ a. refl) l places.size (function_at l) (three_numbers _ (λ k. refl) (λ k. refl) (λ k. refl)) places.most_functions (omega arith) in
    let from_vertices : vs ++ drop places.edge_count l ≡ drop places.function l =
    flat_table vertex_numbers places.vertex_width (λ a. refl) l places.function (vertex_at l) (two_numbers _ (λ k. refl) (λ k. refl)) places.most_vertices (omega arith) in
    let from_edges : es ++ drop places.loop_count l ≡ drop places.from l =
    flat_table edge_numbers places.edge_width (λ a. refl) l places.from (edge_at l) (two_numbers _ (λ k. refl) (λ k. refl)) places.most_edges (omega arith) in
    let from_loops : os ++ drop places.end l ≡ drop places.header l =
    flat_table loop_numbers places.loop_width (λ a. refl) l places.header (loop_at l) (three_numbers _ (λ k. refl) (λ k. refl) (λ k. refl)) places.most_loops (omega arith) in
    let none : drop places.end l ≡ [] = drop_of_length-le l {i = places.end} (omega arith) in
    let loops : get_or l places.loop_count 0 ∷ os ≡ drop places.loop_count l =
    cons_drop l places.loop_count _ _ (omega arith) refl (sym (append-nil os) ∙ ap (λ (r : List ℕ). os ++ r) (sym none) ∙ from_loops) in
    let edges : get_or l places.edge_count 0 ∷ (es ++ (get_or l places.loop_count 0 ∷ os)) ≡ drop places.edge_count l =
    cons_drop l places.edge_count _ _ (omega arith) refl (ap (λ (r : List ℕ). es ++ r) loops ∙ from_edges) in
    let vertices : get_or l places.vertex_count 0 ∷ (vs ++ (get_or l places.edge_count 0 ∷ (es ++ (get_or l places.loop_count 0 ∷ os)))) ≡ drop places.vertex_count l =
    cons_drop l places.vertex_count _ _ (omega arith) refl (ap (λ (r : List ℕ). vs ++ r) edges ∙ from_vertices) in
    cons_drop l places.edition _ _ (omega arith) refl
    (cons_drop l places.scratchpad _ _ (omega arith) refl
    (cons_drop l places.function_count _ _ (omega arith) refl (ap (λ (r : List ℕ). fs ++ r) vertices ∙ from_functions)))
