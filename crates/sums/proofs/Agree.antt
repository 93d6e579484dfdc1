-- Tests that agree on the vertices give lawful walks the same visit charges and the same second total.
use Prim.Native.Nat.{ℕ, ◌<◌}
use mathlib.Core.Path.{◌≡◌, refl, sym, ◌∙◌}
use mathlib.Core.List.{List}
use mathlib.Core.Bool.{Bool, ◌&&◌}
use lib.Dec.{eqb}
use Rattle.model.specs.declared.Loop.{Loop}
use Rattle.model.specs.Numbers.{problem_of}
use Rattle.model.specs.Operations.{Checked}
use Rattle.model.specs.Graph.{holds, loops_of}
use Rattle.model.specs.Costs.{function_of}
use Rattle.model.specs.Walks.{weights}
use Rattle.model.specs.Charges.{visit_charge, second_charge, holds_early, entry_charge, second_total, charges}
use Rattle.model.proofs.Search.{lowest_alike}
use Rattle.greatest.specs.Greatest.{GreatestCapped}
use Rattle.greatest.proofs.Weights.{weights_plain, weights_same}
use Rattle.greatest.proofs.Exact.{capped_same}
use Rattle.lookup.proofs.Walks.{walk_below}

module _ {l : List ℕ} (ok : Checked l) (cap : ℕ) {c c' : ℕ → Bool} (same : (v : ℕ) → v < (problem_of l).vertex_count → c v ≡ c' v) where
  visit_agrees : (v : ℕ) → v < (problem_of l).vertex_count → visit_charge (problem_of l) c v ≡ visit_charge (problem_of l) c' v
  unfolding visit_charge
  visit_agrees v below = rw (same v below)

  plain : (test : ℕ → Bool) (h : List ℕ) → weights (loops_of (problem_of l)) (visit_charge (problem_of l) test) (λ k. 0) h ≡ charges (visit_charge (problem_of l) test) h
  plain test h = weights_plain (loops_of (problem_of l)) (visit_charge (problem_of l) test) (λ k. 0) (λ k i. refl) h

  pub charges_agree : {r : ℕ} → GreatestCapped (problem_of l) cap (charges (visit_charge (problem_of l) c)) r → GreatestCapped (problem_of l) cap (charges (visit_charge (problem_of l) c')) r
  charges_agree =
      capped_same (problem_of l) cap _ _
      (λ h w. sym (plain c _) ∙ weights_same (λ v h walk. walk_below ok walk) visit_agrees (λ k i. refl) w.walk ∙ plain c' _)

  module _ {e e' : ℕ → Bool} (same_early : (v : ℕ) → v < (problem_of l).vertex_count → e v ≡ e' v) where
    second_agrees : (v : ℕ) → v < (problem_of l).vertex_count → second_charge (problem_of l) c e v ≡ second_charge (problem_of l) c' e' v
    unfolding second_charge
    second_agrees v below = rw (visit_agrees v below, same_early v below)

    holds_agrees : (k : Loop) (f : ℕ) → holds_early (problem_of l) e k f ≡ holds_early (problem_of l) e' k f
    unfolding holds_early
    holds_agrees k f =
        rw (lowest_alike (problem_of l).vertex_count (λ v. holds k v && (eqb (function_of (problem_of l) v) f && e v))
        (λ v. holds k v && (eqb (function_of (problem_of l) v) f && e' v)) (λ v below. rw (same_early v below)))

    entry_agrees : (k : Loop) → entry_charge (problem_of l) e k ≡ entry_charge (problem_of l) e' k
    unfolding entry_charge
    entry_agrees k = let set : holds_early (problem_of l) e k ≡ holds_early (problem_of l) e' k = λ i f. holds_agrees k f i in rw set

    pub totals_agree : {r : ℕ} → GreatestCapped (problem_of l) cap (second_total (problem_of l) c e) r → GreatestCapped (problem_of l) cap (second_total (problem_of l) c' e') r
    totals_agree =
        capped_same (problem_of l) cap _ _
        (λ h w. weights_same (λ v h walk. walk_below ok walk) second_agrees (λ k i. entry_agrees k) w.walk)
