-- Numbers stored part by part into zeros are those of the inlined problem.
use Prim.Native.Nat.{ℕ, suc, ◌≤◌, ◌<◌}
use mathlib.Core.Path.{◌≡◌, refl, ap, ◌∙◌}
use mathlib.Core.List.{List, [], ◌∷◌, flat_map}
use native.Mathlib.Omega.{arith}
use lib.ListN.{length, set, replicate}
use lib.Seq.{sets, set_comm}
use Rattle.model.specs.declared.Edge.{Edge}
use Rattle.model.specs.declared.Loop.{Loop}
use Rattle.model.specs.Places as places
use Rattle.model.specs.Numbers.{table, edge_numbers, loop_numbers, numbers_in}
use Rattle.model.specs.Drawings.{drawn_scratchpad, drawn_functions, drawn_function}
use Rattle.model.specs.Inlining.{row_at, inlined_edges, inlined_loops}
use Rattle.model.specs.Inlined.{inlined_rows, copied, inlined_problem}
use Rattle.model.proofs.Lists.{length-table}
use Rattle.numbers.proofs.InParts.{stored_parts}
use Rattle.numbers.proofs.Assembled.{no_edition}
use Rattle.copies.specs.Parts.{head_numbers, row_numbers}
use Rattle.inlined.proofs.Parts.{Few}

-- A number stored before a part, after it.
pub set_before : (part l : List ℕ) (i j a : ℕ) → j < i → set (sets l i part) j a ≡ sets (set l j a) i part
set_before [] l i j a h = refl
set_before (x ∷ part) l i j a h =
    set_before part (set l i x) (suc i) j a (omega arith) ∙ ap (λ (m : List ℕ). sets m (suc i) part) (set_comm l i j x a (λ e. omega arith))

module _ (d : List ℕ) (F : Few d) (room : drawn_functions d ≤ places.most_functions) where
  abbrev es : List Edge
  es = inlined_edges d (inlined_rows d)

  abbrev ls : List Loop
  ls = inlined_loops d (inlined_rows d)

  pub stored_is :
      sets (sets (sets (sets (replicate places.end 0) places.scratchpad (head_numbers d)) places.vertex_count (row_numbers d (inlined_rows d)))
      places.edge_count (length es ∷ flat_map edge_numbers es)) places.loop_count (length ls ∷ flat_map loop_numbers ls)
      ≡ numbers_in 0 (inlined_problem d)
  unfolding inlined_problem
  stored_is =
      let functions = length-table (drawn_functions d) (drawn_function d) in
      let vertices = length-table (length (inlined_rows d)) (λ i. copied d (row_at (inlined_rows d) i)) in
      ap (λ (l : List ℕ). sets (sets (sets (sets l places.scratchpad (head_numbers d)) places.vertex_count (row_numbers d (inlined_rows d)))
      places.edge_count (length es ∷ flat_map edge_numbers es)) places.loop_count (length ls ∷ flat_map loop_numbers ls)) no_edition
      ∙ stored_parts 0 (drawn_scratchpad d) (drawn_functions d) (table (drawn_functions d) (drawn_function d)) (length (inlined_rows d))
      (table (length (inlined_rows d)) (λ i. copied d (row_at (inlined_rows d) i))) (length es) es (length ls) ls (omega arith) (omega (arith, F.rows)) F.edges F.loops
