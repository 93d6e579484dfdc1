-- Read and Bound say of an input's front what they say of the whole.
use Prim.Native.Nat.{ℕ, ◌≤◌}
use Rattle.std.specs.Prelude.{Err, Ok, Result}
use Rattle.model.specs.Refusals.{Verdict}
use Rattle.model.specs.declared.Refusal.{Refusal}
use Rattle.model.specs.declared.Bound.{Bound}
use mathlib.Core.Path.{◌≡◌, refl, sym, ap, ◌∙◌, subst}
use mathlib.Core.List.{List}
use mathlib.Core.Logic.{inl, inr}
use native.Mathlib.Omega.{arith}
use lib.ListN.{length, take}
use lib.Seq.{length-take-le, take_all}
use borrow.Author.Tests.{lt-ltb}
use Rattle.model.specs.declared.Refusal.TheVariants.{LayoutTooLong}
use Rattle.model.specs.declared.Problem.{Problem}
use Rattle.model.specs.Numbers.{numbers_in, numbers_of}
use Rattle.model.specs.Places.{most_functions}
use Rattle.model.specs.File.{read_length}
use Rattle.model.specs.Graph.{and_then}
use Rattle.model.specs.Layouts.{judge_layout}
use Rattle.model.specs.Operations.{read_file, check_problem}
use Rattle.model.specs.Verdicts.{as_verdict, judge_problem, judge_bound}
use Rattle.model.specs.Results.{BoundSays}
use Rattle.model.proofs.Answers.{refused_not_accepted}
use Rattle.model.proofs.Cases.{by_order}
use Rattle.facts.proofs.Facts.{field_facts}
use Rattle.checks.proofs.Opened.{good}
use Rattle.roundtrip.proofs.Prefix.{read_prefix}
use Rattle.std.specs.Prelude.{Option, Some}
use Rattle.sheet.specs.Fronts.{layout_length, count, Fills, Front, FrontOf}

module _ (p : Problem) where
  few_functions : judge_problem p ≡ Ok tt → p.function_count ≤ most_functions
  unfolding judge_problem check_problem numbers_in
  few_functions e = at (check_problem p) refl e
    where
      at : (f : Result ℕ Refusal) → check_problem p ≡ f → as_verdict f ≡ Ok tt → p.function_count ≤ most_functions
      at (Ok need) q z = (field_facts (numbers_of p) need (good _ p need q).fields).functions
      at (Err f) q z = refused_not_accepted z

  -- The verdict on a layout with more bytes than there can be functions, whatever they are.
  too_long : Verdict
  too_long = and_then (judge_problem p) (Err (LayoutTooLong p.function_count))

  long_refused : (layout : List ℕ) → layout_length ≤ length layout → judge_bound p layout ≡ too_long
  unfolding too_long judge_bound judge_layout
  long_refused layout long = at (judge_problem p) refl
    where
      at : (v : Verdict) → judge_problem p ≡ v → and_then v (judge_layout p layout) ≡ and_then v (Err (LayoutTooLong p.function_count))
      at (Ok tt) e = simp (lt-ltb p.function_count (length layout) (omega (arith, few_functions e)))
      at (Err f) e = refl

  long_not_accepted : {P : Type 0} (layout : List ℕ) → layout_length ≤ length layout → judge_bound p layout ≡ Ok tt → P
  unfolding too_long
  long_not_accepted {P} layout long e = at (judge_problem p) (sym (long_refused layout long) ∙ e)
    where
      at : (v : Verdict) → and_then v (Err (LayoutTooLong p.function_count)) ≡ Ok tt → P
      at (Ok tt) z = refused_not_accepted z
      at (Err f) z = refused_not_accepted z

  -- Two layouts that are too long are refused alike.
  long_alike : (a b : List ℕ) → layout_length ≤ length a → layout_length ≤ length b → (r : Result Bound Refusal) → BoundSays p a r → BoundSays p b r
  long_alike a b la lb (Ok x) says = long_not_accepted a la says.0
  long_alike a b la lb (Err f) (inl e) = inl (long_refused b lb ∙ sym (long_refused a la) ∙ e)
  long_alike a b la lb (Err f) (inr x) = long_not_accepted a la x.0

  pub bound_front : (buf : List ℕ) (n : ℕ) → Front layout_length buf n → (r : Result Bound Refusal) → BoundSays p (take n buf) r →
      (layout : List ℕ) → FrontOf buf n layout → BoundSays p layout r
  bound_front buf n front r says layout is =
      by_order (length buf) (length layout)
      (λ over. long_alike (take n buf) layout (rw (is, length-take-le (length buf) layout (omega arith)) front.enough) (omega (arith, front.enough)) r says)
      (λ whole. subst (λ (l : List ℕ). BoundSays p l r) (is ∙ take_all (length buf) layout whole) says)

pub read_front : (buf : List ℕ) (n : ℕ) → Front read_length buf n → (r : Result Problem Refusal) → r ≡ read_file (take n buf) →
    (file : List ℕ) → FrontOf buf n file → r ≡ read_file file
read_front buf n front r says file is = says ∙ ap read_file is ∙ read_prefix file (length buf) front.enough

-- A buffer that was filled to n holds a front, where its room was enough.
pub filled_front : {looked n : ℕ} {before after : List ℕ} {filled : Option ℕ} → looked ≤ length before → Fills before after filled → filled ≡ Some n →
    Front looked after n
filled_front {looked} {n} {before} {after} enough fills e =
    record { enough = omega (arith, fills.room); filled = subst (λ (f : Option ℕ). count f ≤ length after) e fills.within }
