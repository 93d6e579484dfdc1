-- Layouts that give every function the same region are alike: what depends on a layout through its regions alone is the same of both.
use Prim.Native.Nat.{ℕ, ◌+◌, ◌-◌, ◌≤◌}
use mathlib.Core.Path.{◌≡◌, refl, subst, ◌∙◌}
use mathlib.Core.List.{List, [], ◌∷◌}
use mathlib.Core.Bool.{cond}
use lib.Dec.{eqb, ltb}
use Rattle.model.specs.declared.Refusal.TheVariants.{UnknownRegion}
use Rattle.model.specs.declared.Problem.{Problem}
use Rattle.model.specs.declared.Bound.{Bound}
use Rattle.model.specs.Limits.{most_regions}
use Rattle.model.specs.Graph.{broken}
use Rattle.model.specs.Costs.{size_of, load_cost, check_cost, function_of, own_cost, total, largest}
use Rattle.model.specs.Layouts.{region_of, largest_in, need_of, judge_regions}
use Rattle.model.specs.Walks.{last_vertex}
use Rattle.model.specs.Runs.{held, hit, check_at, cycles, loads, held_number, held_after}
use Rattle.model.specs.Results.{BoundIs, PastTheLimit}
use Rattle.model.proofs.Told.{told_alike}

module _ (a b : List ℕ) (same : region_of a ≡ region_of b) (p : Problem) where
  pub alike_regions : judge_regions p a ≡ judge_regions p b
  alike_regions = λ i. broken p.function_count (λ f. ltb (most_regions - 1) (same i f)) UnknownRegion

  pub alike_need : need_of p a ≡ need_of p b
  unfolding need_of largest_in
  alike_need = λ i. total most_regions (λ r. largest p.function_count (λ f. cond (eqb (same i f) r) (size_of p f) 0))

  pub alike_cycles : (h : List ℕ) → cycles p a h ≡ cycles p b h
  unfolding cycles
  alike_cycles [] = refl
  alike_cycles (v ∷ h) = λ i.
      alike_cycles h i
      + (own_cost p v + check_at (function_of p) (check_cost p) v h + cond (hit (function_of p) (same i) v h) 0 (load_cost p (function_of p v)))

  pub alike_loads : (h : List ℕ) → loads p a h ≡ loads p b h
  unfolding loads
  alike_loads [] = refl
  alike_loads (v ∷ h) = λ i. alike_loads h i + cond (hit (function_of p) (same i) v h) 0 1

  pub alike_held : (h : List ℕ) → held_after p a h ≡ held_after p b h
  unfolding held_after
  alike_held h = λ i r. held_number p a (held (function_of p) (same i) r h)

  pub alike_bound : {x : Bound} → BoundIs p a x → BoundIs p b x
  alike_bound {x} is =
      record {
        contested = is.contested;
        early = is.early;
        cold = is.cold;
        told = told_alike refl refl same is.told;
        need_is = is.need_is ∙ alike_need;
        contested_are = is.contested_are;
        greatest = is.greatest;
        greatest_is_lem = is.greatest_is_lem;
        bound_is = is.bound_is;
        first_is = is.first_is;
        within_limit = is.within_limit;
        covers = λ h lawful. subst (λ (n : ℕ). n ≤ x.bound.0) (alike_cycles (last_vertex p ∷ h)) (is.covers h lawful);
      }

  pub alike_past : PastTheLimit p a → PastTheLimit p b
  alike_past is =
      record {
        contested = is.contested;
        early = is.early;
        cold = is.cold;
        told = told_alike refl refl same is.told;
        over = is.over;
        second_over = is.second_over;
      }
