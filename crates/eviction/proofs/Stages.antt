-- Eviction's answer is what its definition says for the stage that it stops at.
use Prim.Native.Nat.{ℕ}
use Rattle.std.specs.Prelude.{Err, Ok, Result}
use Rattle.model.specs.Refusals.{Verdict}
use Rattle.model.specs.declared.Eviction.{Eviction}
use mathlib.Core.Path.{◌≡◌, refl, sym, ap, subst, ◌∙◌}
use mathlib.Core.List.{List}
use mathlib.Core.Logic.{inl, inr}
use native.Mathlib.Omega.{arith}
use Rattle.model.specs.declared.Refusal.{Refusal}
use Rattle.model.specs.declared.Problem.{Problem}
use Rattle.model.specs.declared.Reason.{Reason}
use Rattle.model.specs.Numbers.{problem_of}
use Rattle.model.specs.Operations.{Checked}
use Rattle.model.specs.Graph.{and_then}
use Rattle.model.specs.Layouts.{region_of}
use Rattle.model.specs.Evictions.{EvictionIs}
use Rattle.model.specs.Verdicts.{judge_bound, judge_vertex, judge_eviction}
use Rattle.model.specs.Results.{EvictionSays, EvictionFits}
use Rattle.model.specs.Outcomes.{eviction_outcome, Evicted}
use Rattle.model.proofs.Evictions.{explained_alike}
use Rattle.regions.specs.Regions.{KnownRegions}
use Rattle.vertex_checks.proofs.Vertices.{passed_below}
use Rattle.eviction.specs.Showing.{Lent, Explainable, Explained}

module _ (p : Problem) (layout : List ℕ) (v : ℕ) where
  -- What Eviction answers, and what it leaves in the buffer.
  abbrev pub Says : List ℕ → List ℕ → Result Eviction Refusal → Type 0
  Says before after r = EvictionSays p layout v before after r × EvictionFits p layout v before r

  after_layout : (w : Verdict) → judge_bound p layout ≡ w → judge_eviction p layout v ≡ and_then w (judge_vertex p v)
  unfolding judge_eviction
  after_layout w e = ap (λ (x : Verdict). and_then x (judge_vertex p v)) e

  refused : (before : List ℕ) (x : Refusal) → judge_eviction p layout v ≡ Err x → Says before before (Err x)
  refused before x e = ((refl, inl e), λ room. e)

  pub not_begun : (before : List ℕ) (x : Refusal) → judge_bound p layout ≡ Err x → Says before before (Err x)
  not_begun before x e = refused before x (after_layout (Err x) e)

  module _ (good : judge_bound p layout ≡ Ok tt) (w : Verdict) (judged : w ≡ judge_vertex p v) where
    vertex_judged : judge_eviction p layout v ≡ w
    vertex_judged = after_layout (Ok tt) good ∙ sym judged

    pub bad_vertex : (before : List ℕ) (x : Refusal) → w ≡ Err x → Says before before (Err x)
    bad_vertex before x e = refused before x (vertex_judged ∙ e)

    module _ (known : w ≡ Ok tt) (regions : List ℕ) (same : region_of regions ≡ region_of layout) (before after : List ℕ) where
      accepted : judge_eviction p layout v ≡ Ok tt
      accepted = vertex_judged ∙ known

      -- What explains the vertex by its regions, filled in, explains it by the layout.
      alike : (reason : Reason) (walk : List ℕ) → EvictionIs p regions v reason walk → EvictionIs p layout v reason walk
      alike = explained_alike p p regions layout refl refl same v

      pub explained : (r : Result Eviction Refusal) → Explained p regions v before after r → Says before after r
      unfolding Lent
      explained (Ok e) (reason, walk, is, few, (is_reason, is_count, room, stored)) = (
        (accepted, (walk, subst (λ (x : Reason). EvictionIs p layout v x walk) (sym is_reason) (alike reason walk is), is_count, room, stored)),
        omega arith,
      )
      explained (Err f) (reason, walk, is, few, (kept, short, is_f)) =
          ((kept, inr (accepted, (reason, walk, alike reason walk is, short, is_f))), λ room. absurd (omega arith))

-- A vertex that passed can be explained, on checked numbers and regions that list every function.
pub explainable : (l regions : List ℕ) (v : ℕ) → Checked l → KnownRegions (problem_of l) regions → (w : Verdict) → w ≡ judge_vertex (problem_of l) v →
    w ≡ Ok tt → Explainable l regions v
explainable l regions v checked known w judged accepted =
    record { checked = checked; known = known; there = passed_below (problem_of l) v (sym judged ∙ accepted) }

-- What is said of one problem is said of its equal.
pub of_same : (p q : Problem) (layout : List ℕ) (v : ℕ) (before after : List ℕ) → p ≡ q → (r : Result Eviction Refusal) → Says p layout v before after r →
    Says q layout v before after r
of_same p q layout v before after same r = subst (λ (x : Problem). Says x layout v before after r) same

-- An answer, with its outcome.
pub with_outcome : (p : Problem) (layout : List ℕ) (v : ℕ) (before after : List ℕ) (r : Result Eviction Refusal) → Says p layout v before after r →
    EvictionSays p layout v before after r × (EvictionFits p layout v before r × Evicted p layout v before after (eviction_outcome r))
with_outcome p layout v before after r says = (says.0, (says.1, (r, says.0, refl)))
