-- The checks of Bound and Run through 13: the problem's own, then the layout's.
use Prim.Native.Nat.{ℕ, ◌-◌, ◌<◌}
use Rattle.std.specs.Prelude.{Err, Ok, Result}
use Rattle.model.specs.Refusals.{Verdict}
use mathlib.Core.Path.{◌≡◌, refl, sym, ap, subst, ◌∙◌}
use mathlib.Core.List.{List}
use mathlib.Core.Bool.{Bool, false, cond}
use native.Mathlib.Omega.{arith}
use lib.Dec.{ltb}
use borrow.Author.Tests.{ltb-false}
use Rattle.model.specs.declared.Refusal.{Refusal}
use Rattle.model.specs.declared.Problem.{Problem}
use Rattle.model.specs.declared.Bytes.{Bytes}
use Rattle.model.specs.Zero.{bytes}
use Rattle.model.specs.Numbers.{problem_of}
use Rattle.model.specs.Search.{exists_below}
use Rattle.model.specs.Operations.{Checked}
use Rattle.model.specs.Graph.{and_then}
use Rattle.model.specs.Limits.{most_regions}
use Rattle.model.specs.Layouts.{filled_in, region_of, need_of, judge_length, judge_layout}
use Rattle.model.specs.Verdicts.{judge_problem, judge_bound}
use Rattle.model.proofs.Cases.{by_bool}
use Rattle.model.proofs.Answers.{accepted_both, refused_not_accepted}
use Rattle.model.proofs.Search.{none_below}
use Rattle.numbers.specs.Numbered.{Numbered}
use Rattle.checks.specs.Steps.{judge_numbers}
use Rattle.checks.proofs.Opened.{judges_problem, checked_problem}
use Rattle.layout.specs.Answers.{layout_answer, layout_verdict}
use Rattle.layout.proofs.Alike.{alike_need}
use Rattle.layout.proofs.FilledIn.{lists_all, regions_same}
use Rattle.regions.specs.Regions.{KnownRegions}

module _ (p : Problem) (layout : List ℕ) where
  pub bad_problem : (x : Refusal) → judge_problem p ≡ Err x → judge_bound p layout ≡ Err x
  unfolding judge_bound
  bad_problem x e = ap (λ (v : Verdict). and_then v (judge_layout p layout)) e

  abbrev unknown : ℕ → Bool
  unknown f = ltb (most_regions - 1) (region_of layout f)

  -- Where nothing was refused, every function has one of the regions.
  layout_known : judge_layout p layout ≡ Ok tt → (f : ℕ) → f < p.function_count → region_of layout f < most_regions
  unfolding judge_layout
  layout_known layout_good f below =
      let rest = (accepted_both (judge_length p layout) _ layout_good).1 in
      let known = (accepted_both (cond (exists_below p.function_count unknown) _ _) _ rest).0 in
      let none : exists_below p.function_count unknown ≡ false =
      by_bool (exists_below p.function_count unknown) (λ t. refused_not_accepted (rw t at known)) (λ t. t) in
      omega (arith, ltb-false (most_regions - 1) (region_of layout f) (none_below p.function_count unknown none f below))

-- A problem whose own checks refused.
pub refused_early : (p : Problem) (l layout : List ℕ) → Numbered p l → (v : Verdict) → v ≡ judge_numbers l → (x : Refusal) → v ≡ Err x →
    judge_bound p layout ≡ Err x
refused_early p l layout numbered v is x e = bad_problem p layout x (sym (judges_problem p l numbered v is) ∙ e)

-- A layout with checked numbers and its regions, filled in: the refusal through 13, or the bytes that it needs, and the regions known.
pub record Through (l layout regions : List ℕ) (need : Bytes) : Type 0 where
  pub good : judge_bound (problem_of l) layout ≡ Ok tt
  pub same : region_of regions ≡ region_of layout
  pub need_is : need.0 ≡ need_of (problem_of l) regions
  pub regions_known : KnownRegions (problem_of l) regions

module _ (l layout : List ℕ) (ok : Checked l) (a : Result Bytes Refusal) (judged : a ≡ layout_answer (judge_layout (problem_of l) layout) (need_of (problem_of l) layout)) where
  then_layout : judge_bound (problem_of l) layout ≡ judge_layout (problem_of l) layout
  unfolding judge_bound
  then_layout = ap (λ (v : Verdict). and_then v (judge_layout (problem_of l) layout)) (checked_problem l ok)

  pub refused_layout : (x : Refusal) → a ≡ Err x → judge_bound (problem_of l) layout ≡ Err x
  refused_layout x e = then_layout ∙ sym (same_verdict (judge_layout (problem_of l) layout)) ∙ ap layout_verdict (sym judged ∙ e)
    where
      same_verdict : (v : Verdict) → layout_verdict (layout_answer v (need_of (problem_of l) layout)) ≡ v
      same_verdict (Ok tt) = refl
      same_verdict (Err f) = refl

  module _ (regions : List ℕ) (filled : regions ≡ filled_in layout (problem_of l).function_count) where
    fitting : (need : Bytes) → judge_layout (problem_of l) layout ≡ Ok tt → bytes (need_of (problem_of l) layout) ≡ need → Through l layout regions need
    unfolding judge_layout
    fitting need accepted is =
        let same = regions_same (problem_of l) layout regions filled (accepted_both (judge_length (problem_of l) layout) _ accepted).0 in
        record {
          good = then_layout ∙ accepted;
          same = same;
          need_is = ap (λ (b : Bytes). b.0) (sym is) ∙ sym (alike_need regions layout same (problem_of l));
          regions_known =
              record {
                listed = lists_all (problem_of l) layout regions filled;
                known = λ f below. subst (λ (region : ℕ → ℕ). region f < most_regions) (sym same) (layout_known (problem_of l) layout accepted f below);
              };
        }

    pub through : (need : Bytes) → a ≡ Ok need → Through l layout regions need
    through need e = at (judge_layout (problem_of l) layout) refl (sym judged ∙ e)
      where
        at : (v : Verdict) → judge_layout (problem_of l) layout ≡ v → layout_answer v (need_of (problem_of l) layout) ≡ Ok need → Through l layout regions need
        at (Ok tt) q z = let same : bytes (need_of (problem_of l) layout) ≡ need = cc in fitting need q same
        at (Err r) q z = let w : ◌≡◌ {A = ℕ} 0 1 = cc in absurd (omega arith)
