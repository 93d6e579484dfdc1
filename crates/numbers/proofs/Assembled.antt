-- Pieces stored in file order are the numbers of the problem.
use Prim.Native.Nat.{ℕ}
use mathlib.Core.Path.{◌≡◌, refl, sym, ap, ◌∙◌}
use mathlib.Core.List.{List, flat_map}
use native.Mathlib.Omega.{arith}
use lib.Seq.{sets, set-get_or}
use lib.ListN.{set, replicate, length-replicate}
use Rattle.model.specs.declared.Problem.{Problem}
use Rattle.model.specs.Numbers.{numbers_in, numbers_of, problem_of, edition_of, Sized, function_numbers, vertex_numbers, edge_numbers, loop_numbers}
use Rattle.numbers.specs.Numbered.{Numbered, Stored}
use Rattle.model.proofs.Lists.{stored_behind, get_or-replicate_self}
use Rattle.numbers.proofs.Places.{sets_over}
use Rattle.numbers.proofs.Parts.{function_part, vertex_part, edge_part, loop_part, in_parts, Lengths, lengths}
use Rattle.numbers.proofs.Inverse.{numbers_length, problem_of_numbers}
use Rattle.model.specs.Places as places

-- All places zero: where the stores begin. The edition stands as 0 until the other numbers are there.
abbrev blank : List ℕ
blank = replicate places.end 0

pub no_edition : blank ≡ set blank places.edition 0
no_edition = sym (ap (set blank places.edition) (sym (get_or-replicate_self {A = ℕ} places.end places.edition 0)) ∙ set-get_or blank places.edition 0)

-- Then the edition is put that is written of them.
pub edition_put : (p : Problem) → Sized p → (edition : ℕ) (l l' : List ℕ) → l ≡ numbers_in edition p → l' ≡ set l places.edition (edition_of (problem_of l)) → Numbered p l'
unfolding numbers_in
edition_put p sized edition l l' is put =
    record {
      is = put ∙ rw is (ap (λ (q : Problem). set (numbers_in edition p) places.edition (edition_of q)) (problem_of_numbers edition p sized) ∙ over);
      sized = sized;
    }
  where
    over : set (numbers_in edition p) places.edition (edition_of p) ≡ numbers_of p
    over = refl

module _ (p : Problem) (l₁ l₂ l₃ l₄ l₅ : List ℕ) where
  pub numbered :
      Stored function_numbers places.most_functions places.size p.functions (set (set blank places.scratchpad p.scratchpad.0) places.function_count p.function_count) l₁ →
      Stored vertex_numbers places.most_vertices places.function p.vertices (set l₁ places.vertex_count p.vertex_count) l₂ →
      Stored edge_numbers places.most_edges places.from p.edges (set l₂ places.edge_count p.edge_count) l₃ →
      Stored loop_numbers places.most_loops places.header p.loops (set l₃ places.loop_count p.loop_count) l₄ →
      l₅ ≡ set l₄ places.edition (edition_of (problem_of l₄)) → Numbered p l₅
  numbered f v e o put =
      let sized : Sized p = record { functions = f.long; vertices = v.long; edges = e.long; loops = o.long } in
      let long : Lengths 0 p = lengths 0 p sized in
      let begun = f.is ∙ ap (λ (l : List ℕ). sets (set (set l places.scratchpad p.scratchpad.0) places.function_count p.function_count) places.size (flat_map function_numbers p.functions)) no_edition in
      edition_put p sized 0 l₄ l₅
      (stored_behind blank l₁ l₄ places.edition places.vertex_count (function_part 0 p) _ begun (omega arith)
      (stored_behind l₁ l₂ l₄ places.vertex_count places.edge_count (vertex_part p) _ v.is (omega arith)
      (stored_behind l₂ l₃ l₄ places.edge_count places.loop_count (edge_part p) (loop_part p) e.is (omega arith) o.is))
      ∙ sym (ap (λ (r : List ℕ). sets blank 0 r) (in_parts 0 p))
      ∙ sets_over blank (numbers_in 0 p) (numbers_length 0 p sized ∙ sym (length-replicate {A = ℕ} places.end 0)))
      put
