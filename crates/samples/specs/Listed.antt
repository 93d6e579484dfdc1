-- A problem's numbers from its lists, of each its count and then its items' numbers. Every spare place is zero.
use Rattle.std.specs.Prelude.{ℕ, ◌+◌, ◌≤◌, List, length, set, replicate}
use Rattle.std.proofs.lemmas.List.Edits.{sets}
use Rattle.model.specs.File.{number_count}
use Rattle.model.specs.Places as places

unfoldable pub listed : ℕ → List ℕ → List ℕ → List ℕ → List ℕ → List ℕ
listed scratchpad functions vertices edges loops =
    sets (sets (sets (sets (set (set (replicate number_count 0) places.edition 1) places.scratchpad scratchpad)
    places.function_count functions) places.vertex_count vertices) places.edge_count edges) places.loop_count loops

-- The lists end within a problem's numbers.
pub record Fits (functions vertices edges loops : List ℕ) : Type 0 where
  pub functions_end : places.function_count + length functions ≤ number_count
  pub vertices_end : places.vertex_count + length vertices ≤ number_count
  pub edges_end : places.edge_count + length edges ≤ number_count
  pub loops_end : places.loop_count + length loops ≤ number_count
