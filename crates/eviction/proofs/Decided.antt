-- Eviction's contract decides its answer and the lent walk: a vertex has one reason, and the reason one walk.
use Prim.Native.Nat.{ℕ}
use Rattle.std.specs.Prelude.{Err, Ok, Result}
use Rattle.model.specs.declared.Refusal.{Refusal}
use Rattle.model.specs.declared.Eviction.{Eviction}
use mathlib.Core.Path.{◌≡◌, refl, sym, ap, subst, ◌∙◌}
use mathlib.Core.List.{List, Memᴰ}
use mathlib.Core.Bool.{false}
use mathlib.Core.Logic.{inl, inr}
use native.Mathlib.Omega.{arith}
use lib.ListN.{length}
use lib.Seq.{sets}
use Rattle.model.specs.declared.Refusal.TheVariants.{BufferTooShort}
use Rattle.model.specs.declared.Problem.{Problem}
use Rattle.model.specs.declared.Reason.{Reason}
use Rattle.model.specs.declared.Reason.TheVariants.{EveryVisit, FirstLoad, Never}
use Rattle.model.specs.Costs.{function_of}
use Rattle.model.specs.Walks.{EdgeOf}
use Rattle.model.specs.Layouts.{region_of}
use Rattle.model.specs.Interference.{since, occurs}
use Rattle.model.specs.Evictions.{Shortest, EvictionBy}
use Rattle.model.specs.Results.{EvictionSays}
use Rattle.model.proofs.Answers.{refused_not_accepted}
use Rattle.ways.proofs.Ahead.{shortest_once}

module _ (fn : ℕ → ℕ) (Edge : ℕ → ℕ → Type 0) (region : ℕ → ℕ) (v : ℕ) where
  abbrev Same : Reason → Reason → List ℕ → List ℕ → Type 0
  Same a b xs ys = (a ≡ b) × (xs ≡ ys)

  pub reason_once : (a b : Reason) (xs ys : List ℕ) → EvictionBy fn Edge region v a xs → EvictionBy fn Edge region v b ys → Same a b xs ys
  reason_once (EveryVisit g) (EveryVisit k) xs ys (evicts, lowest, shown) (evicts', lowest', shown') =
      let same : g ≡ k = omega (arith, lowest k evicts', lowest' g evicts) in (
        ap EveryVisit same,
        shortest_once Edge (λ h. Memᴰ g (since fn (fn v) h)) v xs ys shown
            (subst (λ (x : ℕ). Shortest Edge (λ h. Memᴰ x (since fn (fn v) h)) v ys) (sym same) shown'),
      )
  reason_once (EveryVisit g) FirstLoad xs ys (evicts, lowest, shown) (early, shown') = absurd (early.0 (g, evicts.0, evicts.1))
  reason_once (EveryVisit g) Never xs ys (evicts, lowest, shown) (free, known, none) = absurd (free (g, evicts.0, evicts.1))
  reason_once FirstLoad (EveryVisit g) xs ys (early, shown) (evicts, lowest, shown') = absurd (early.0 (g, evicts.0, evicts.1))
  reason_once FirstLoad FirstLoad xs ys (early, shown) (early', shown') = (refl, shortest_once Edge (λ h. occurs fn (fn v) h ≡ false) v xs ys shown shown')
  reason_once FirstLoad Never xs ys (early, shown) (free, known, none) = absurd (known early.1)
  reason_once Never (EveryVisit g) xs ys (free, known, none) (evicts, lowest, shown) = absurd (free (g, evicts.0, evicts.1))
  reason_once Never FirstLoad xs ys (free, known, none) (early, shown) = absurd (known early.1)
  reason_once Never Never xs ys (free, known, none) (free', known', none') = (refl, none ∙ sym none')

module _ (p : Problem) (layout : List ℕ) (v : ℕ) (before after after' : List ℕ) where
  once : (a b : Reason) (xs ys : List ℕ) → EvictionBy (function_of p) (EdgeOf p) (region_of layout) v a xs →
      EvictionBy (function_of p) (EdgeOf p) (region_of layout) v b ys → (a ≡ b) × (xs ≡ ys)
  once = reason_once (function_of p) (EdgeOf p) (region_of layout) v

  pub eviction_decided : (r s : Result Eviction Refusal) → EvictionSays p layout v before after r → EvictionSays p layout v before after' s → (r ≡ s) × (after ≡ after')
  eviction_decided (Ok e) (Ok e') (good, (xs, is, count, room, stored)) (good', (ys, is', count', room', stored')) =
      let (reasons, walks) = once e.reason e'.reason xs ys is is' in
      let counts : e.count ≡ e'.count = count ∙ ap length walks ∙ sym count' in
      (λ i. Ok (record { reason = reasons i; count = counts i }), stored ∙ ap (sets before 0) walks ∙ sym stored')
  eviction_decided (Ok e) (Err f) (good, rest) (kept, inl refused) = refused_not_accepted (sym refused ∙ good)
  eviction_decided (Ok e) (Err f) (good, (xs, is, count, room, stored)) (kept, inr (good', (reason, ys, is', short, told))) =
      let walks = (once e.reason reason xs ys is is').1 in absurd (omega (arith, ap length walks))
  eviction_decided (Err f) (Ok e) (kept, inl refused) (good, rest) = refused_not_accepted (sym refused ∙ good)
  eviction_decided (Err f) (Ok e) (kept, inr (good', (reason, ys, is', short, told))) (good, (xs, is, count, room, stored)) =
      let walks = (once e.reason reason xs ys is is').1 in absurd (omega (arith, ap length walks))
  eviction_decided (Err f) (Err g) (kept, inl refused) (kept', inl refused') =
      let same : Err f ≡ Err g = sym refused ∙ refused' in let is : f ≡ g = cc in (ap Err is, kept ∙ sym kept')
  eviction_decided (Err f) (Err g) (kept, inl refused) (kept', inr (good, rest)) = refused_not_accepted (sym refused ∙ good)
  eviction_decided (Err f) (Err g) (kept, inr (good, rest)) (kept', inl refused) = refused_not_accepted (sym refused ∙ good)
  eviction_decided (Err f) (Err g) (kept, inr (good, (a, xs, is, short, told))) (kept', inr (good', (b, ys, is', short', told'))) =
      let walks = (once a b xs ys is is').1 in
      (ap Err (told ∙ ap (λ (walk : List ℕ). BufferTooShort (length walk)) walks ∙ sym told'), kept ∙ sym kept')
