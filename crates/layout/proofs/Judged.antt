-- The refusals 11 to 13 as answers.
use Prim.Native.Nat.{ℕ, ◌≤◌, ◌<◌}
use Rattle.std.specs.Prelude.{Err, Ok, Result}
use Rattle.model.specs.Refusals.{Verdict}
use mathlib.Core.Path.{◌≡◌, refl, sym, ap, ◌∙◌}
use mathlib.Core.List.{List}
use mathlib.Core.Bool.{cond}
use lib.Dec.{ltb}
use borrow.Author.Tests.{lt-ltb, le-ltb}
use Rattle.model.specs.declared.Refusal.{Refusal}
use Rattle.model.specs.declared.Bytes.{Bytes}
use Rattle.model.specs.declared.Problem.{Problem}
use Rattle.model.specs.Zero.{bytes}
use Rattle.model.specs.Graph.{and_then}
use Rattle.model.specs.Layouts.{need_of, judge_length, judge_regions, judge_need, judge_layout}
use Rattle.layout.specs.Answers.{layout_answer}

-- A check that refuses where a number, here known as n, is below another.
module _ {a n b : ℕ} (is : a ≡ n) (refusal : ℕ → Refusal) where
  pub below : a < b → ◌≡◌ {A = Verdict} (Err (refusal a)) (cond (ltb n b) (Err (refusal n)) (Ok tt))
  below h = rw (← is, lt-ltb a b h)

  pub not_below : b ≤ a → ◌≡◌ {A = Verdict} (Ok tt) (cond (ltb n b) (Err (refusal n)) (Ok tt))
  not_below h = rw (← is, le-ltb a b h)

-- The three in order: one that refuses is the answer, and on the good case of each the next goes on.
module _ (p : Problem) (layout : List ℕ) where
  abbrev answered : Result Bytes Refusal
  answered = layout_answer (judge_layout p layout) (need_of p layout)

  in_order_lem : (u v w : Verdict) → u ≡ judge_length p layout → v ≡ judge_regions p layout → w ≡ judge_need p (need_of p layout) →
      layout_answer (and_then u (and_then v w)) (need_of p layout) ≡ answered
  unfolding judge_layout
  in_order_lem u v w first second third = rw (first, second, third)

  module _ {u : Verdict} (first : u ≡ judge_length p layout) where
    pub bad_length : {f : Refusal} → u ≡ Err f → Err f ≡ answered
    bad_length e = in_order_lem (Err _) _ _ (sym e ∙ first) refl refl

    module _ (good : u ≡ Ok tt) {v : Verdict} (second : v ≡ judge_regions p layout) where
      pub bad_region : {f : Refusal} → v ≡ Err f → Err f ≡ answered
      bad_region e = in_order_lem (Ok tt) (Err _) _ (sym good ∙ first) (sym e ∙ second) refl

      module _ (known : v ≡ Ok tt) {need : Bytes} (needed : need.0 ≡ need_of p layout) {w : Verdict} (third : w ≡ judge_need p need.0) where
        last : (x : Verdict) → w ≡ x → layout_answer x (need_of p layout) ≡ answered
        last x e = in_order_lem (Ok tt) (Ok tt) x (sym good ∙ first) (sym known ∙ second) (sym e ∙ third ∙ ap (judge_need p) needed)

        pub too_large : {f : Refusal} → w ≡ Err f → Err f ≡ answered
        too_large e = last (Err _) e

        pub fits : w ≡ Ok tt → Ok need ≡ answered
        fits e = ap (λ (n : ℕ). Ok (bytes n)) needed ∙ last (Ok tt) e
