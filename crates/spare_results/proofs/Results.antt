-- What the definitions of Interference, Bound, Run and Eviction say of a problem they say of every record that is the same but for spare places.
use Prim.Native.Nat.{ℕ, ◌+◌, ◌*◌, ◌≤◌, ◌<◌}
use Rattle.std.specs.Prelude.{Err, Ok, Result}
use Rattle.model.specs.Refusals.{Verdict}
use Rattle.model.specs.declared.Refusal.{Refusal}
use Rattle.model.specs.declared.Eviction.{Eviction}
use mathlib.Core.Path.{◌≡◌, refl, sym, ap, ◌∙◌}
use mathlib.Core.List.{List, [], ◌∷◌, reverse}
use mathlib.Core.Bool.{Bool, cond}
use mathlib.Core.Logic.{◌↔◌, inl, inr}
use lib.ListN.{length, get_or}
use Rattle.model.specs.declared.Problem.{Problem}
use Rattle.model.specs.declared.Bound.{Bound}
use Rattle.model.specs.Zero.{cycles as cycles_of}
use Rattle.model.specs.Limits.{most_regions}
use Rattle.model.specs.Numbers.{table, Sized}
use Rattle.model.specs.Costs.{how_many}
use Rattle.model.specs.Layouts.{region_of}
use Rattle.model.specs.Interference.{Interferes}
use Rattle.model.specs.Charges.{Told, charges}
use Rattle.model.specs.Runs.{held, hit, check_at, cycles, loads, held_number, held_after}
use Rattle.model.specs.Operations.{SameProblem}
use Rattle.model.specs.Verdicts.{judge_bound, judge_run, judge_eviction}
use Rattle.model.specs.Results.{Member, Sets, InterferenceSays, bound_limit, BoundIs, PastTheLimit, BoundSays, run_after, run_walk, regions_after, run_regions, EvictionSays}
use Rattle.model.proofs.Told.{told_alike}
use Rattle.model.proofs.Evictions.{eviction_alike}
use Rattle.spare.proofs.Views.{same_load, same_check, same_function, same_cost, same_edge, same_words, same_need, same_charge, same_first, same_total}
use Rattle.spare.proofs.Walks.{some_too, all_too, greatest_too, smaller_too}
use Rattle.spare.proofs.Checks.{same_interference, same_bound, same_run}

module _ {p q : Problem} (same : SameProblem p q) (layout : List ℕ) where
  same_cycles : (h : List ℕ) → cycles p layout h ≡ cycles q layout h
  unfolding cycles
  same_cycles [] = refl
  same_cycles (v ∷ h) =
      λ i.
      same_cycles h i
      + (same_cost same i v
      + check_at (same_function same i) (same_check same i) v h
      + cond (hit (same_function same i) (region_of layout) v h) 0 (same_load same i (same_function same i v)))

  same_loads : (h : List ℕ) → loads p layout h ≡ loads q layout h
  unfolding loads
  same_loads [] = refl
  same_loads (v ∷ h) = λ i. same_loads h i + cond (hit (same_function same i) (region_of layout) v h) 0 1

  same_held : (h : List ℕ) → held_after p layout h ≡ held_after q layout h
  unfolding held_after
  same_held h = λ i r. held_number p layout (held (same_function same i) (region_of layout) r h)

  told_too : {contested early cold : ℕ → Bool} → Told p layout contested early cold → Told q layout contested early cold
  told_too = told_alike (same_function same) (same_edge same) refl

  bound_too : {b : Bound} → BoundIs p layout b → BoundIs q layout b
  bound_too {b} is =
      record {
        contested = is.contested;
        early = is.early;
        cold = is.cold;
        told = told_too is.told;
        need_is = is.need_is ∙ same_need same layout;
        contested_are = is.contested_are ∙ ap (λ (n : ℕ). how_many n is.contested) same.vertex_count;
        greatest = is.greatest;
        greatest_is_lem = greatest_too same (λ i. charges (same_charge same is.contested i)) is.greatest_is_lem;
        bound_is = smaller_too same (same_total same is.early is.contested) (λ i. is.greatest + same_first same is.cold i) is.bound_is;
        first_is = is.first_is;
        within_limit = is.within_limit;
        covers = all_too same (λ i h. same_cycles h i ≤ b.bound.0) is.covers;
      }

  past_too : PastTheLimit p layout → PastTheLimit q layout
  past_too is =
      record {
        contested = is.contested;
        early = is.early;
        cold = is.cold;
        told = told_too is.told;
        over = some_too same (λ i h. bound_limit < charges (same_charge same is.contested i) h + same_first same is.cold i) is.over;
        second_over = some_too same (λ i h. bound_limit < same_total same is.early is.contested i h) is.second_over;
      }

sets_too : {p q : Problem} → SameProblem p q → {words after : List ℕ} {count : ℕ} → Sets p words after count → Sets q words after count
sets_too same {after} sets =
    record {
      filled = sets.filled ∙ same_words same;
      member =
          coe 0 1 (i. (v f g : ℕ) → v < same.vertex_count i → f < same.function_count i →
          Member (get_or after (v * same.function_count i + f) 0) g ↔ Interferes (same_function same i) (same_edge same i) v f g)
          sets.member;
      later = sets.later;
      long = sets.long;
    }

module _ (p q : Problem) (sized : Sized p) (sized' : Sized q) (same : SameProblem p q) where
  pub interference_says_too : (words after : List ℕ) (r : Result ℕ Refusal) → InterferenceSays p words after r → InterferenceSays q words after r
  interference_says_too words after (Ok count) (good, sets) =
      (sym (same_interference p q sized sized' same (length words)) ∙ good, sets_too same sets)
  interference_says_too words after (Err f) (refused, kept) =
      (sym (same_interference p q sized sized' same (length words)) ∙ refused, kept)

  module _ (layout : List ℕ) where
    judged : judge_bound q layout ≡ judge_bound p layout
    judged = sym (same_bound p q sized sized' same layout)

    pub bound_says_too : (r : Result Bound Refusal) → BoundSays p layout r → BoundSays q layout r
    bound_says_too (Ok b) (good, is) = (judged ∙ good, bound_too same layout is)
    bound_says_too (Err f) (inl refused) = inl (judged ∙ refused)
    bound_says_too (Err f) (inr (good, is, past)) = inr (judged ∙ good, is, past_too same layout past)

    pub same_ran : (walk : List ℕ) → run_walk p layout walk ≡ run_walk q layout walk
    unfolding run_walk
    same_ran walk = rw (same_run p q sized sized' same layout walk) (at (judge_run q layout walk))
      where
        at : (v : Verdict) → run_after v p layout walk ≡ run_after v q layout walk
        at (Ok tt) = λ i. Ok (record { cycles = cycles_of (same_cycles same layout (reverse walk) i); loads = same_loads same layout (reverse walk) i })
        at (Err f) = refl

    pub same_regions : (walk regions : List ℕ) → run_regions p layout walk regions ≡ run_regions q layout walk regions
    unfolding run_regions
    same_regions walk regions = rw (same_run p q sized sized' same layout walk) (at (judge_run q layout walk))
      where
        at : (v : Verdict) → regions_after v p layout walk regions ≡ regions_after v q layout walk regions
        at (Ok tt) = ap (table most_regions) (same_held same layout (reverse walk))
        at (Err f) = refl

    eviction_judged : (v : ℕ) → judge_eviction q layout v ≡ judge_eviction p layout v
    unfolding judge_eviction
    eviction_judged v = rw (judged, same.vertex_count)

    pub eviction_says_too : (v : ℕ) (before after : List ℕ) (r : Result Eviction Refusal) → EvictionSays p layout v before after r → EvictionSays q layout v before after r
    eviction_says_too v = eviction_alike p q layout layout (same_function same) (same_edge same) refl v (eviction_judged v)
