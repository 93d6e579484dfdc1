-- The flow over the edges: a table that no edge changes holds all that walks show, and no more.
use Prim.Native.Nat.{ℕ}
use mathlib.Core.Path.{◌≡◌, refl, sym, ◌∙◌}
use mathlib.Core.List.{List}
use mathlib.Core.Logic.{inl, inr}
use native.Mathlib.Omega.{arith}
use lib.ListN.{replicate, length-replicate}
use Rattle.model.specs.declared.Edge.{Edge}
use Rattle.model.specs.Numbers.{problem_of}
use Rattle.model.specs.Costs.{function_of}
use Rattle.model.specs.Walks.{EdgeOf}
use Rattle.model.specs.Layouts.{region_of}
use Rattle.model.specs.Operations.{Checked}
use Rattle.sound.proofs.Held.{held_complete}
use Rattle.bits.specs.Words.{Has, Sound}
use Rattle.bits.proofs.Steps.{none_in_cleared}
use Rattle.flow.specs.Rounds.{Closed}
use Rattle.flow.specs.Starts.{from}
use Rattle.flow.proofs.Edges.{by_number}
use Rattle.rivals.specs.Rivals.{RivalTable}
pub use Rattle.held.specs.Laws.{held_known}
use Rattle.held.specs.Laws.{start_known}
use Rattle.held.specs.Flow.{Shown, held_flow, HeldTable}
use Rattle.model.specs.Places as places

module _ (l : List ℕ) (ok : Checked l) (rivals : List ℕ) where
  pub held_begun : Sound (Shown (problem_of l) rivals) (replicate places.most_vertices 0)
  held_begun k b h = absurd (none_in_cleared places.most_vertices k b h)

  pub held_table : (after : List ℕ) → Closed (held_flow (problem_of l) rivals) (replicate places.most_vertices 0) after → HeldTable (problem_of l) rivals after
  held_table after closed = record {
    long = closed.long ∙ length-replicate {A = ℕ} places.most_vertices 0;
    member = λ layout table v g. (
      λ m. closed.sound v g m layout table,
      λ (h, walk, e). held_complete (function_of (problem_of l)) (region_of layout) (EdgeOf (problem_of l)) (Has after) (settled layout table) g walk e,
    );
  }
    where
      settled : (layout : List ℕ) → RivalTable (problem_of l) layout rivals → (u v : ℕ) → EdgeOf (problem_of l) u v →
          Has after v (function_of (problem_of l) u) ×
          ((g : ℕ) → (region_of layout (function_of (problem_of l) u) ≡ region_of layout g → ⊥) → Has after u g → Has after v g)
      settled layout table u v d =
          by_number (problem_of l) (λ (x : Edge).
          Has after x.to (function_of (problem_of l) x.from) ×
          ((g : ℕ) → (region_of layout (function_of (problem_of l) x.from) ≡ region_of layout g → ⊥) → Has after x.from g → Has after x.to g))
          (λ i here. (
            closed.passed i here 0 _ (omega arith) (inl refl),
            λ g other has.
                closed.passed i here 0 g (omega arith)
                (inr (λ rival. other (sym ((table.member (function_of (problem_of l) (from (problem_of l) i)) (start_known l ok i here) g).0 rival).2), has)),
          ))
          u v d
