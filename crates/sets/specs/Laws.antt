-- Interference sets satisfy what a flow does: each member that a step adds has a walk.
use Prim.Native.Nat.{ℕ, ◌/◌, ◌%◌, ◌<◌}
use mathlib.Core.Path.{◌≡◌, sym, subst}
use mathlib.Core.List.{List}
use mathlib.Core.Logic.{◌⊎◌, inl, inr, ⊎_elim, ◌↔◌}
use native.Mathlib.Omega.{arith}
use lib.ListN.{length}
use Rattle.model.specs.declared.Problem.{Problem}
use Rattle.model.specs.Graph.{edges_of}
use Rattle.model.specs.Costs.{function_of}
use Rattle.model.specs.Walks.{EdgeOf, Walk}
use Rattle.model.specs.Interference.{Interferes}
use Rattle.sound.proofs.Flow.{first, further}
use Rattle.bits.specs.Words.{Has, Sound}
use Rattle.flow.specs.Laws.{Laws}
use Rattle.flow.specs.Starts.{from, to}
use Rattle.flow.proofs.Edges.{is_edge}
use Rattle.sets.specs.Sets.{set_at, Gains, InSet, set_flow}
use Rattle.model.specs.Places as places

module _ (p : Problem) where
  pub at_word : (v f b : ℕ) → f < places.most_functions → InSet p (set_at v f) b ↔ Interferes (function_of p) (EdgeOf p) v f b
  at_word v f b small =
      let row : set_at v f / places.most_functions ≡ v = omega arith in
      let column : set_at v f % places.most_functions ≡ f = omega arith in
      (λ h. rw (row, column) at h, λ h. rw (row, column) h)

  -- Interference sets, where a walk comes to the start of each edge.
  module _ (starts : (i : ℕ) → i < length (edges_of p) → (h : List ℕ) × Walk (EdgeOf p) (from p i) h)
      (i : ℕ) (here : i < length (edges_of p)) (f : ℕ) (small : f < places.most_functions) where
    -- A member that edge i brings to the set of its end and f.
    brought : (ws : List ℕ) → Sound (InSet p) ws → (b : ℕ) → Gains ws (from p i) f (function_of p (from p i)) b →
        Interferes (function_of p) (EdgeOf p) (to p i) f b
    brought ws sound b (ne, gain) = at gain
      where
        at : (b ≡ function_of p (from p i)) ⊎ Has ws (set_at (from p i) f) b → Interferes (function_of p) (EdgeOf p) (to p i) f b
        at (inl e) =
            let (h, walk) = starts i here in
            subst (λ (x : ℕ). Interferes (function_of p) (EdgeOf p) (to p i) f x) (sym e)
            (first (function_of p) (EdgeOf p) (from p i) (to p i) f h walk (is_edge p i here) ne)
        at (inr m) =
            let was = (at_word (from p i) f b small).0 (sound (set_at (from p i) f) b m) in
            further (function_of p) (EdgeOf p) (from p i) (to p i) f b was (is_edge p i here) ne

  pub set_laws : ((i : ℕ) → i < length (edges_of p) → (h : List ℕ) × Walk (EdgeOf p) (from p i) h) → Laws (set_flow p)
  set_laws starts = record {
    apart = λ x v f h lt lt' e. omega arith;
    local = λ ws after u row f b lt (ne, m). (ne, ⊎_elim inl (λ h. inr (row f b lt h)) m);
    good = λ ws sound i here f b lt m. (at_word (to p i) f b lt).1 (brought starts i here f lt ws sound b m);
  }
