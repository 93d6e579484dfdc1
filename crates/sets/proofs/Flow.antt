-- The flow of the interference sets: a row filled word by word, and that a table that no edge changes holds all that walks show, and no more.
use Prim.Native.Nat.{ℕ, ◌+◌, ◌≤◌, ◌<◌}
use mathlib.Core.Path.{◌≡◌, refl, ◌∙◌}
use mathlib.Core.List.{List}
use mathlib.Core.Logic.{inl, inr, ◌↔◌}
use native.Mathlib.Omega.{arith}
use lib.ListN.{set, replicate, length-replicate, length-set}
use lib.Seq.{get_or-set_same, get_or-set_other}
use Rattle.model.specs.declared.Edge.{Edge}
use Rattle.model.specs.declared.Problem.{Problem}
use Rattle.model.specs.Costs.{function_of}
use Rattle.model.specs.Walks.{EdgeOf}
use Rattle.model.specs.Results.{Member}
use Rattle.model.proofs.Cases.{by_order}
use Rattle.sound.proofs.Flow.{complete}
use Rattle.bits.specs.Words.{Has, Sound}
use Rattle.bits.proofs.Steps.{none_in_cleared}
use Rattle.flow.specs.Rounds.{Closed}
use Rattle.flow.proofs.Edges.{by_number}
use Rattle.sets.specs.Laws.{at_word}
use Rattle.sets.specs.Sets.{set_words, set_at, Gains, Leaves, InSet, set_flow, SetTable}
use Rattle.model.specs.Places as places

-- A row filled word by word.
pub no_leaving : (ws : List ℕ) (u g : ℕ) → Leaves ws u g 0 (replicate places.most_functions 0)
no_leaving ws u g = record { long = length-replicate {A = ℕ} places.most_functions 0; words = λ f b lt. absurd (omega arith) }

pub one_leaving : {ws row : List ℕ} {u f g : ℕ} (add : ℕ) → f < places.most_functions → Leaves ws u g f row → ((b : ℕ) → Member add b ↔ Gains ws u f g b) →
    Leaves ws u g (f + 1) (set row f add)
one_leaving {row = row} {f = f} add small r more = record {
  long = length-set row f add ∙ r.long;
  words = λ h b lt. by_order h f
      (λ low. rw (get_or-set_other row f h add 0 (omega arith)) (r.words h b low))
      (λ high.
      let e : h ≡ f = omega arith in
      rw (e, get_or-set_same row f add 0 (omega (arith, r.long))) (more b));
}

module _ (p : Problem) where
  pub set-table : (after : List ℕ) → p.function_count ≤ places.most_functions → Closed (set_flow p) (replicate set_words 0) after → SetTable p after
  set-table after few closed = record {
    long = closed.long ∙ length-replicate {A = ℕ} set_words 0;
    member = λ v f g _ lt. (
      λ m. (at_word p v f g (omega arith)).0 (closed.sound (set_at v f) g m),
      λ (other, (h, walk, seen)). complete (function_of p) (EdgeOf p) (λ x y. Has after (set_at x f) y) f (settled f (omega arith)) g walk seen,
    );
  }
    where
      settled : (f : ℕ) → f < places.most_functions → (u v : ℕ) → EdgeOf p u v → (function_of p u ≡ f → ⊥) →
          Has after (set_at v f) (function_of p u) × ((g : ℕ) → Has after (set_at u f) g → Has after (set_at v f) g)
      settled f lt u v e ne = (passed (function_of p u) (ne, inl refl), λ g m. passed g (ne, inr m))
        where
          passed : (b : ℕ) → Gains after u f (function_of p u) b → Has after (set_at v f) b
          passed =
              by_number p (λ (x : Edge). (b : ℕ) → Gains after x.from f (function_of p x.from) b → Has after (set_at x.to f) b)
              (λ i here b m. closed.passed i here f b lt m) u v e

  pub set_begun : Sound (InSet p) (replicate set_words 0)
  set_begun k b h = absurd (none_in_cleared set_words k b h)
