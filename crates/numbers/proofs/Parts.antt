-- A problem's numbers in four parts, each with one list and its count.
use Prim.Native.Nat.{ℕ, ◌-◌}
use mathlib.Core.Path.{◌≡◌, refl}
use mathlib.Core.List.{List, ◌∷◌, ◌++◌, flat_map}
use native.Mathlib.Omega.{arith}
use lib.ListN.{length}
use Rattle.model.specs.declared.Problem.{Problem}
use Rattle.model.specs.Numbers.{function_numbers, vertex_numbers, edge_numbers, loop_numbers, numbers_in, Sized}
use Rattle.numbers.proofs.Places.{length-flat_map}
use Rattle.model.specs.Places as places

module _ (p : Problem) where
  abbrev pub vertex_part : List ℕ
  vertex_part = p.vertex_count ∷ flat_map vertex_numbers p.vertices

  abbrev pub edge_part : List ℕ
  edge_part = p.edge_count ∷ flat_map edge_numbers p.edges

  abbrev pub loop_part : List ℕ
  loop_part = p.loop_count ∷ flat_map loop_numbers p.loops

module _ (edition : ℕ) (p : Problem) where
  abbrev pub function_part : List ℕ
  function_part = edition ∷ p.scratchpad.0 ∷ p.function_count ∷ flat_map function_numbers p.functions

  pub in_parts : numbers_in edition p ≡ function_part ++ (vertex_part p ++ (edge_part p ++ loop_part p))
  unfolding numbers_in
  in_parts = refl

  pub record Lengths : Type 0 where
    pub functions : length function_part ≡ places.vertex_count
    pub vertices : length (vertex_part p) ≡ places.edge_count - places.vertex_count
    pub edges : length (edge_part p) ≡ places.loop_count - places.edge_count
    pub loops : length (loop_part p) ≡ places.end - places.loop_count

  pub lengths : Sized p → Lengths
  lengths sized =
      record {
        functions = omega (arith, length-flat_map function_numbers places.function_width (λ a. refl) p.functions);
        vertices = omega (arith, length-flat_map vertex_numbers places.vertex_width (λ a. refl) p.vertices);
        edges = omega (arith, length-flat_map edge_numbers places.edge_width (λ a. refl) p.edges);
        loops = omega (arith, length-flat_map loop_numbers places.loop_width (λ a. refl) p.loops);
      }
