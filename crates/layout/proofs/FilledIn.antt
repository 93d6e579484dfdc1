-- Bound, Run and Eviction say the same of a layout and of its filled-in one; the bound of an accepted layout covers every lawful walk under the filled-in one.
use Prim.Native.Nat.{ℕ, ◌≤◌}
use Rattle.std.specs.Prelude.{Err, Ok, Result}
use Rattle.model.specs.Refusals.{Verdict}
use Rattle.model.specs.declared.Refusal.{Refusal}
use Rattle.model.specs.declared.Eviction.{Eviction}
use mathlib.Core.Path.{◌≡◌, refl, sym, ap, ◌∙◌}
use mathlib.Core.List.{List, [], ◌∷◌, reverse}
use mathlib.Core.Bool.{cond}
use mathlib.Core.Logic.{◌↔◌, inl, inr}
use native.Mathlib.Omega.{arith}
use lib.ListN.{length}
use lib.Dec.{ltb}
use borrow.Author.Tests.{le-ltb, ltb-false}
use Rattle.model.specs.declared.Refusal.TheVariants.{WalkTooLong}
use Rattle.model.specs.declared.Problem.{Problem}
use Rattle.model.specs.declared.Bound.{Bound}
use Rattle.model.specs.Zero.{cycles as cycles_of}
use Rattle.model.specs.Limits.{most_regions}
use Rattle.model.specs.Numbers.{table}
use Rattle.model.specs.Graph.{and_then}
use Rattle.model.specs.Walks.{last_vertex, Lawful}
use Rattle.model.specs.Layouts.{filled_in, region_of, judge_length, judge_need, judge_layout}
use Rattle.model.specs.Runs.{cycles}
use Rattle.model.specs.Verdicts.{judge_problem, judge_bound, walk_limit, judge_walk, judge_run, judge_vertex, judge_eviction}
use Rattle.model.specs.Results.{BoundSays, run_after, run_walk, regions_after, run_regions, EvictionSays}
use Rattle.model.proofs.Cases.{by_bool}
use Rattle.model.proofs.Evictions.{eviction_alike}
use Rattle.model.proofs.Answers.{accepted_both, refused_not_accepted}
use Rattle.filled.proofs.Filled.{filled_length, same_regions}
use Rattle.regions.specs.Regions.{ListsAll}
use Rattle.layout.proofs.Alike.{alike_regions, alike_need, alike_cycles, alike_loads, alike_held, alike_bound, alike_past}

-- A layout that is not refused for its length.
pub not_longer : (p : Problem) (layout : List ℕ) → judge_length p layout ≡ Ok tt → length layout ≤ p.function_count
not_longer p layout e =
    ltb-false p.function_count (length layout)
    (by_bool (ltb p.function_count (length layout)) (λ t. refused_not_accepted (rw t at e)) (λ t. t))

-- The regions filled in: no function is left off, and they are the layout's.
module _ (p : Problem) (layout regions : List ℕ) (filled : regions ≡ filled_in layout p.function_count) where
  pub lists_all : ListsAll p regions
  lists_all = rw (filled, filled_length layout p.function_count) (omega arith)

  pub regions_same : judge_length p layout ≡ Ok tt → region_of regions ≡ region_of layout
  regions_same good = ap region_of filled ∙ same_regions layout p.function_count (not_longer p layout good)

-- Layouts that are alike and judged alike.
says_alike : (p : Problem) (a b : List ℕ) → region_of a ≡ region_of b → judge_bound p b ≡ judge_bound p a → (r : Result Bound Refusal) → BoundSays p a r → BoundSays p b r
says_alike p a b same judged (Ok x) (good, is) = (judged ∙ good, alike_bound a b same p is)
says_alike p a b same judged (Err f) (inl refused) = inl (judged ∙ refused)
says_alike p a b same judged (Err f) (inr (good, is, past)) = inr (judged ∙ good, is, alike_past a b same p past)

-- A layout no longer than the functions, and the problem's filled-in layout.
module _ (p : Problem) (layout : List ℕ) (short : length layout ≤ p.function_count) where
  abbrev filled_layout : List ℕ
  filled_layout = filled_in layout p.function_count

  same : region_of filled_layout ≡ region_of layout
  same = same_regions layout p.function_count short

  same_length : judge_length p filled_layout ≡ judge_length p layout
  same_length =
      rw (
        filled_length layout p.function_count,
        le-ltb p.function_count p.function_count (omega arith),
        le-ltb p.function_count (length layout) short,
      )

  same_judged : judge_bound p filled_layout ≡ judge_bound p layout
  unfolding judge_bound judge_layout
  same_judged =
      λ i. and_then (judge_problem p) (and_then (same_length i) (and_then (alike_regions _ _ same p i) (judge_need p (alike_need _ _ same p i))))

  pub filled_bound : (r : Result Bound Refusal) → BoundSays p layout r ↔ BoundSays p filled_layout r
  filled_bound r = (says_alike p layout filled_layout (sym same) same_judged r, says_alike p filled_layout layout same (sym same_judged) r)

  same_eviction : (v : ℕ) → judge_eviction p filled_layout v ≡ judge_eviction p layout v
  unfolding judge_eviction
  same_eviction v = λ i. and_then (same_judged i) (judge_vertex p v)

  pub filled_eviction : (v : ℕ) (before after : List ℕ) (r : Result Eviction Refusal) →
      EvictionSays p layout v before after r ↔ EvictionSays p filled_layout v before after r
  filled_eviction v before after r = (
    eviction_alike p p layout filled_layout refl refl (sym same) v (same_eviction v) before after r,
    eviction_alike p p filled_layout layout refl refl same v (sym (same_eviction v)) before after r,
  )

  module _ (walk : List ℕ) where
    same_run : judge_run p filled_layout walk ≡ judge_run p layout walk
    unfolding judge_run
    same_run = λ i. and_then (same_judged i) (cond (ltb walk_limit (length walk)) (Err (WalkTooLong walk_limit)) (judge_walk p [] 0 walk))

    pub filled_run : run_walk p filled_layout walk ≡ run_walk p layout walk
    unfolding run_walk
    filled_run = rw same_run (at (judge_run p layout walk))
      where
        at : (v : Verdict) → run_after v p filled_layout walk ≡ run_after v p layout walk
        at (Ok tt) = λ i.
            Ok (record { cycles = cycles_of (alike_cycles _ _ same p (reverse walk) i); loads = alike_loads _ _ same p (reverse walk) i })
        at (Err f) = refl

    pub filled_held : (regions : List ℕ) → run_regions p filled_layout walk regions ≡ run_regions p layout walk regions
    unfolding run_regions
    filled_held regions = rw same_run (at (judge_run p layout walk))
      where
        at : (v : Verdict) → regions_after v p filled_layout walk regions ≡ regions_after v p layout walk regions
        at (Ok tt) = ap (table most_regions) (alike_held _ _ same p (reverse walk))
        at (Err f) = refl

-- Where Bound gives a result the layout is no longer than the functions.
pub accepted_short : (p : Problem) (layout : List ℕ) → judge_bound p layout ≡ Ok tt → length layout ≤ p.function_count
unfolding judge_bound judge_layout
accepted_short p layout good = not_longer p layout (accepted_both (judge_length p layout) _ (accepted_both (judge_problem p) _ good).1).0

-- An accepted layout's bound covers every lawful walk under the filled-in layout.
pub filled_covered : (p : Problem) (layout : List ℕ) (b : Bound) → BoundSays p layout (Ok b) → (h : List ℕ) → Lawful p h →
    cycles p (filled_in layout p.function_count) (last_vertex p ∷ h) ≤ b.bound.0
filled_covered p layout b says h lawful = ((filled_bound p layout (accepted_short p layout says.0) (Ok b)).0 says).1.covers h lawful
