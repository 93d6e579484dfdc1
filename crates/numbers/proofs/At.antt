-- The numbers of a problem, each at its place.
use Prim.Native.Nat.{ℕ, ◌<◌}
use mathlib.Core.Path.{◌≡◌, sym, ap, ◌∙◌}
use mathlib.Core.List.{List}
use lib.ListN.{get_or}
use Rattle.model.specs.declared.Problem.{Problem}
use Rattle.model.specs.Zero.{zero_function, zero_vertex, zero_edge, zero_loop}
use Rattle.model.specs.Places as places
use Rattle.model.specs.Numbers.{table, numbers_in, problem_of, function_at, vertex_at, edge_at, loop_at, Sized}
use Rattle.model.proofs.Lists.{get_or-table}
use Rattle.numbers.proofs.Inverse.{problem_of_numbers}

-- What stands in a list that is a table.
in_table : {A : Type 0} (n : ℕ) (f : ℕ → A) (spare : A) (s : List A) → table n f ≡ s → (i : ℕ) → i < n → f i ≡ get_or s i spare
in_table n f spare s e i h = sym (get_or-table n f i spare h) ∙ ap (λ x. get_or x i spare) e

module _ (edition : ℕ) (p : Problem) (sized : Sized p) where
  own : problem_of (numbers_in edition p) ≡ p
  own = problem_of_numbers edition p sized

  pub scratchpad_is : get_or (numbers_in edition p) places.scratchpad 0 ≡ p.scratchpad.0
  unfolding problem_of
  scratchpad_is = ap (λ (q : Problem). q.scratchpad.0) own

  pub functions_are : get_or (numbers_in edition p) places.function_count 0 ≡ p.function_count
  unfolding problem_of
  functions_are = ap (λ (q : Problem). q.function_count) own

  pub vertices_are : get_or (numbers_in edition p) places.vertex_count 0 ≡ p.vertex_count
  unfolding problem_of
  vertices_are = ap (λ (q : Problem). q.vertex_count) own

  pub edges_are : get_or (numbers_in edition p) places.edge_count 0 ≡ p.edge_count
  unfolding problem_of
  edges_are = ap (λ (q : Problem). q.edge_count) own

  pub loops_are : get_or (numbers_in edition p) places.loop_count 0 ≡ p.loop_count
  unfolding problem_of
  loops_are = ap (λ (q : Problem). q.loop_count) own

  pub function_is : (i : ℕ) → i < places.most_functions → function_at (numbers_in edition p) i ≡ get_or p.functions i zero_function
  unfolding problem_of
  function_is = in_table places.most_functions (function_at (numbers_in edition p)) zero_function p.functions (ap (λ (q : Problem). q.functions) own)

  pub vertex_is : (i : ℕ) → i < places.most_vertices → vertex_at (numbers_in edition p) i ≡ get_or p.vertices i zero_vertex
  unfolding problem_of
  vertex_is = in_table places.most_vertices (vertex_at (numbers_in edition p)) zero_vertex p.vertices (ap (λ (q : Problem). q.vertices) own)

  pub edge_is : (i : ℕ) → i < places.most_edges → edge_at (numbers_in edition p) i ≡ get_or p.edges i zero_edge
  unfolding problem_of
  edge_is = in_table places.most_edges (edge_at (numbers_in edition p)) zero_edge p.edges (ap (λ (q : Problem). q.edges) own)

  pub loop_is : (i : ℕ) → i < places.most_loops → loop_at (numbers_in edition p) i ≡ get_or p.loops i zero_loop
  unfolding problem_of
  loop_is = in_table places.most_loops (loop_at (numbers_in edition p)) zero_loop p.loops (ap (λ (q : Problem). q.loops) own)
