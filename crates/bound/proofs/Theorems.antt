-- What a reader wants to know of the bound besides its definition: it is not below the greatest visit charges, and it is the smaller of two numbers.
use Prim.Native.Nat.{ℕ, ◌+◌, ◌≤◌, min}
use mathlib.Core.Path.{◌≡◌}
use mathlib.Core.List.{List}
use native.Mathlib.Omega.{arith}
use Rattle.model.specs.declared.Problem.{Problem}
use Rattle.model.specs.declared.Bound.{Bound}
use Rattle.model.specs.Walks.{Greatest}
use Rattle.model.specs.Charges.{first_loads, second_total}
use Rattle.model.specs.Results.{BoundIs}
use Rattle.firsts.proofs.Smaller.{smaller_is_lem}

module _ {p : Problem} {layout : List ℕ} {b : Bound} (is : BoundIs p layout b) where
  -- Some lawful walk has visit charges of `greatest`: the bound is not below them.
  pub bound_not_below : is.greatest ≤ b.bound.0
  bound_not_below = omega (arith, is.first_is)

  -- It is the smaller of the two totals.
  pub bound_is_min : (second : ℕ) → Greatest p (second_total p is.contested is.early) second → b.bound.0 ≡ min (is.greatest + first_loads p is.cold) second
  bound_is_min second most = smaller_is_lem p _ _ b.bound.0 second is.bound_is most
