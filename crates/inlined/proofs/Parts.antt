-- The parts of the inlined problem, where 19 does not apply: its lists without spare places are those of the definition.
use Prim.Native.Nat.{ℕ, ◌≤◌, ◌<◌}
use Rattle.std.specs.Prelude.{Ok}
use mathlib.Core.Path.{◌≡◌, refl, sym, ap, ◌∙◌}
use mathlib.Core.List.{List}
use mathlib.Core.Bool.{Bool, true, ◌&&◌}
use native.Mathlib.Omega.{arith}
use lib.ListN.{length, get_or, take}
use lib.Seq.{ext_get_or}
use borrow.Author.Tests.{leb-true}
use Rattle.model.specs.declared.Function.{Function}
use Rattle.model.specs.declared.Vertex.{Vertex}
use Rattle.model.specs.Zero.{zero_function, zero_vertex, zero_edge, zero_loop}
use Rattle.model.specs.Places as places
use Rattle.model.specs.Numbers.{table, Sized, in_places}
use Rattle.model.specs.Graph.{functions_of, vertices_of, edges_of, loops_of}
use Rattle.model.specs.Drawings.{drawn_functions, drawn_function}
use Rattle.model.specs.Inlining.{row_at, inlined_edges, inlined_loops}
use Rattle.model.specs.Inlined.{inlined_rows, judge_counts, copied, inlined_problem}
use Rattle.model.proofs.Answers.{refused_not_accepted}
use Rattle.model.proofs.Cases.{by_bool, and_left, and_right}
use Rattle.model.proofs.Lists.{length-table, get_or-table, length-take-table, get_or-take-table}

-- 19 does not apply: the counts stay within document 01's table.
pub record Few (d : List ℕ) : Type 0 where
  pub rows : length (inlined_rows d) ≤ places.most_vertices
  pub edges : length (inlined_edges d (inlined_rows d)) ≤ places.most_edges
  pub loops : length (inlined_loops d (inlined_rows d)) ≤ places.most_loops

-- Three tests joined.
all_three : (a b c : Bool) → a && (b && c) ≡ true → (a ≡ true) × (b ≡ true) × (c ≡ true)
all_three a b c e = (and_left a (b && c) e, and_left b c (and_right a (b && c) e), and_right b c (and_right a (b && c) e))

pub few : (d : List ℕ) → judge_counts d ≡ Ok tt → Few d
unfolding judge_counts
few d e =
    by_bool _
    (λ q. let (rows, edges, loops) = all_three _ _ _ q in record { rows = leb-true _ _ rows; edges = leb-true _ _ edges; loops = leb-true _ _ loops })
    (λ q. refused_not_accepted (rw q at e))

-- A list in places, without the spare ones, and by index.
in_places_lem : {A : Type 0} (n count : ℕ) (spare : A) (s : List A) → length s ≡ count → count ≤ n → take count (in_places n spare s) ≡ s
in_places_lem n count spare s long fits =
    let taken = length-take-table count n (λ i. get_or s i spare) fits in
    ext_get_or spare (take count (in_places n spare s)) s (taken ∙ sym long) (λ i h. get_or-take-table count n (λ j. get_or s j spare) i spare fits (omega arith))

module _ (d : List ℕ) (F : Few d) where
  pub edges_of_lem : edges_of (inlined_problem d) ≡ inlined_edges d (inlined_rows d)
  unfolding inlined_problem
  edges_of_lem = in_places_lem places.most_edges (length (inlined_edges d (inlined_rows d))) zero_edge (inlined_edges d (inlined_rows d)) refl F.edges

  pub loops_of_lem : loops_of (inlined_problem d) ≡ inlined_loops d (inlined_rows d)
  unfolding inlined_problem
  loops_of_lem = in_places_lem places.most_loops (length (inlined_loops d (inlined_rows d))) zero_loop (inlined_loops d (inlined_rows d)) refl F.loops

  vertices_of_lem : vertices_of (inlined_problem d) ≡ table (length (inlined_rows d)) (λ i. copied d (row_at (inlined_rows d) i))
  unfolding inlined_problem
  vertices_of_lem =
      in_places_lem places.most_vertices (length (inlined_rows d)) zero_vertex (table (length (inlined_rows d)) (λ i. copied d (row_at (inlined_rows d) i)))
      (length-table (length (inlined_rows d)) (λ i. copied d (row_at (inlined_rows d) i))) F.rows

  pub vertex_of_lem : (i : ℕ) → i < length (inlined_rows d) → get_or (vertices_of (inlined_problem d)) i zero_vertex ≡ copied d (row_at (inlined_rows d) i)
  vertex_of_lem i h = ap (λ (s : List Vertex). get_or s i zero_vertex) vertices_of_lem ∙ get_or-table (length (inlined_rows d)) (λ i. copied d (row_at (inlined_rows d) i)) i zero_vertex h

  pub function_of : drawn_functions d ≤ places.most_functions → (f : ℕ) → f < drawn_functions d → get_or (functions_of (inlined_problem d)) f zero_function ≡ drawn_function d f
  unfolding inlined_problem
  function_of room f h =
      ap (λ (s : List Function). get_or s f zero_function)
      (in_places_lem places.most_functions (drawn_functions d) zero_function (table (drawn_functions d) (drawn_function d)) (length-table (drawn_functions d) (drawn_function d)) room)
      ∙ get_or-table (drawn_functions d) (drawn_function d) f zero_function h

pub sized : (d : List ℕ) → Sized (inlined_problem d)
unfolding inlined_problem
sized d =
    record {
      functions = length-table places.most_functions _;
      vertices = length-table places.most_vertices _;
      edges = length-table places.most_edges _;
      loops = length-table places.most_loops _;
    }
