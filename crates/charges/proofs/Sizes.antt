-- How large the visit charges of a checked problem are.
use Prim.Native.Nat.{ℕ, ◌≤◌, ◌<◌}
use mathlib.Core.Path.{◌≡◌}
use mathlib.Core.List.{List}
use mathlib.Core.Bool.{Bool, cond}
use native.Mathlib.Omega.{arith}
use Rattle.model.specs.Numbers.{problem_of}
use Rattle.model.specs.Operations.{Checked}
use Rattle.model.specs.Costs.{function_of, load_cost, check_cost}
use Rattle.model.specs.Charges.{entered, visit_charge}
use Rattle.model.proofs.Cases.{by_cond}
use Rattle.facts.specs.Fields.{FieldFacts}
use Rattle.lookup.proofs.Places.{facts, load_high, check_high, function_below, cost_high}
use Rattle.charges.specs.Tests.{charge_limit}
use Rattle.model.specs.Limits as limits

module _ (l : List ℕ) (checked : Checked l) where
  -- A load cost or a check cost that is charged or not.
  pub load_or_none : (t : Bool) (f : ℕ) → f < (problem_of l).function_count → cond t (load_cost (problem_of l) f) 0 ≤ limits.most_cycles
  load_or_none t f below = by_cond (λ (x : ℕ). x ≤ limits.most_cycles) t (λ e. load_high l (facts _ checked) f below) (λ e. omega arith)

  check_or_none : (t : Bool) (f : ℕ) → f < (problem_of l).function_count → cond t (check_cost (problem_of l) f) 0 ≤ limits.most_check
  check_or_none t f below = by_cond (λ (x : ℕ). x ≤ limits.most_check) t (λ e. check_high l (facts _ checked) f below) (λ e. omega arith)

  pub own_function : (v : ℕ) → v < (problem_of l).vertex_count → {f : ℕ} → f ≡ function_of (problem_of l) v → FieldFacts l × (f < (problem_of l).function_count)
  own_function v below of_v = (facts l checked, omega (arith, function_below l (facts _ checked) v below))

  pub visit_high : (contested : ℕ → Bool) (v : ℕ) → v < (problem_of l).vertex_count → visit_charge (problem_of l) contested v ≤ charge_limit
  unfolding visit_charge
  visit_high contested v below =
      omega (
        arith,
        cost_high l (facts _ checked) v below,
        check_or_none (entered (problem_of l) v) (function_of (problem_of l) v) (function_below l (facts _ checked) v below),
        load_or_none (contested v) (function_of (problem_of l) v) (function_below l (facts _ checked) v below),
      )
