-- First reach: a table that no edge changes holds all that walks show, and no more.
use Prim.Native.Nat.{ℕ, zero, suc, ◌<◌}
use mathlib.Core.Path.{◌≡◌, ◌∙◌}
use mathlib.Core.List.{List}
use native.Mathlib.Omega.{arith}
use lib.ListN.{set, replicate, length-replicate, length-set}
use Rattle.model.specs.declared.Edge.{Edge}
use Rattle.model.specs.declared.Problem.{Problem}
use Rattle.model.specs.Costs.{function_of}
use Rattle.model.specs.Walks.{EdgeOf}
use Rattle.model.specs.Results.{Member}
use Rattle.sound.proofs.Flow.{fresh_start, fresh_complete}
use Rattle.bits.specs.Words.{Has, Sound}
use Rattle.bits.proofs.Steps.{none_in_cleared}
use Rattle.flow.specs.Rounds.{Closed}
use Rattle.flow.proofs.Edges.{by_number}
use Rattle.reach.specs.Fresh.{FreshGains, IsFresh, fresh_flow, FreshTable}
use Rattle.model.specs.Places as places

module _ (p : Problem) where
  pub fresh_begun : (all : ℕ) → Sound (IsFresh p) (set (replicate places.most_vertices 0) 0 all)
  fresh_begun all zero b h = fresh_start (function_of p) (EdgeOf p) b
  fresh_begun all (suc k) b h = absurd (none_in_cleared places.most_vertices (suc k) b h)

  pub fresh_table : (all : ℕ) (after : List ℕ) → ((b : ℕ) → b < p.function_count → Member all b) →
      Closed (fresh_flow p) (set (replicate places.most_vertices 0) 0 all) after → FreshTable p after
  fresh_table all after full closed = record {
    long = closed.long ∙ length-set (replicate places.most_vertices 0) 0 all ∙ length-replicate {A = ℕ} places.most_vertices 0;
    member = λ v f _ lt. (
      closed.sound v f,
      λ (h, walk, new). fresh_complete (function_of p) (EdgeOf p) (λ x. Has after x f) f (closed.kept 0 f (full f lt)) (settled f) walk new,
    );
  }
    where
      settled : (f u v : ℕ) → EdgeOf p u v → (function_of p u ≡ f → ⊥) → Has after u f → Has after v f
      settled f u v e ne m =
          by_number p (λ (x : Edge). (b : ℕ) → FreshGains after x.from (function_of p x.from) b → Has after x.to b)
          (λ i here b gain. closed.passed i here 0 b (omega arith) gain) u v e f (ne, m)
