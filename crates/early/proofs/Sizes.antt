-- How large the loads of some functions of a checked problem are.
use Prim.Native.Nat.{ℕ, ◌+◌, ◌≤◌, ◌<◌}
use mathlib.Core.Path.{◌≡◌}
use mathlib.Core.List.{List}
use mathlib.Core.Bool.{Bool}
use native.Mathlib.Omega.{arith}
use Rattle.model.specs.Numbers.{problem_of}
use Rattle.model.specs.Operations.{Checked}
use Rattle.model.specs.Costs.{total}
use Rattle.model.specs.Charges.{first_loads}
use Rattle.model.specs.Limits as limits
use Rattle.lookup.proofs.Places.{facts, few_functions}
use Rattle.regions.proofs.Sums.{Upto, total_more, total_high}
use Rattle.charges.proofs.Sizes.{load_or_none}
use Rattle.early.specs.Early.{first_load, first_limit, LoadedFirst}

module _ (l : List ℕ) (checked : Checked l) (test : ℕ → Bool) where
  -- The loads of those below n.
  some_loads_high : (n : ℕ) → n ≤ (problem_of l).function_count → total n (first_load (problem_of l) test) ≤ first_limit
  unfolding first_load
  some_loads_high n within =
      omega (
        arith,
        few_functions l (facts _ checked),
        total_high (first_load (problem_of l) test) n limits.most_cycles (λ f h. load_or_none l checked (test f) f (omega arith)),
      )

  pub loads_fit : {f loads load : ℕ} → Upto (λ n. total n (first_load (problem_of l) test)) (problem_of l).function_count f loads →
      f < (problem_of l).function_count → load ≡ first_load (problem_of l) test f → loads + load ≤ first_limit
  loads_fit {f} upto below load_is =
      omega (
        arith,
        upto.is,
        total_more (first_load (problem_of l) test) f,
        some_loads_high (f + 1) (omega arith),
      )

  pub loaded_first : {loads : ℕ} → loads ≡ first_loads (problem_of l) test → LoadedFirst (problem_of l) test loads
  unfolding first_loads first_load
  loaded_first is = record { loads_are = is; small = omega (arith, some_loads_high (problem_of l).function_count (omega arith)) }
