-- A visit's price, own cost plus flags times check cost and load cost, is the visit charge.
use Prim.Native.Nat.{ℕ, ◌+◌, ◌*◌, ◌<◌}
use mathlib.Core.Path.{◌≡◌}
use mathlib.Core.List.{List}
use mathlib.Core.Bool.{Bool, true, false, cond}
use native.Mathlib.Nat.{one-mul, zero-mul}
use lib.ListN.{get_or}
use Rattle.model.specs.declared.Problem.{Problem}
use Rattle.model.specs.Costs.{function_of, own_cost, load_cost, check_cost}
use Rattle.model.specs.Charges.{entered as is_entered, visit_charge}
use Rattle.entered.specs.Flags.{FlagsTell}
use Rattle.entered.specs.Entered.{EnteredTold}
use Rattle.charges.specs.Tests.{Flags, flagged, price}
use Rattle.charges.proofs.Flags.{flag_own}

-- A test's answer multiplies as the test chooses.
answer_times : (test : Bool) (cost : ℕ) → cond test 1 0 * cost ≡ cond test cost 0
answer_times true cost = one-mul cost
answer_times false cost = zero-mul cost

module _ (p : Problem) (entered flags : List ℕ) where
  by_flags :
      (contested : ℕ → Bool) (v : ℕ) → get_or entered v 0 ≡ cond (is_entered p v) 1 0 → get_or flags v 0 ≡ cond (contested v) 1 0 →
      price p entered flags v ≡ visit_charge p contested v
  unfolding price visit_charge
  by_flags contested v told marked =
      rw (
        told,
        marked,
        answer_times (is_entered p v) (check_cost p (function_of p v)),
        answer_times (contested v) (load_cost p (function_of p v)),
      )

  -- **The price is the visit charge** at every vertex, whatever test the flags are marked with.
  pub price_is_visit_charge :
      {contested : ℕ → Bool} → EnteredTold p entered → FlagsTell p.vertex_count contested flags → (v : ℕ) → v < p.vertex_count →
      price p entered flags v ≡ visit_charge p contested v
  price_is_visit_charge {contested} told marked v below = by_flags contested v (told.flag v below) (marked.flag v below)

  -- So it is by the test that flags keep.
  pub price_flagged :
      EnteredTold p entered → Flags p.vertex_count flags → (v : ℕ) → v < p.vertex_count → price p entered flags v ≡ visit_charge p (flagged flags) v
  price_flagged told zero_or_one v below = by_flags (flagged flags) v (told.flag v below) (flag_own zero_or_one v below)

  -- The price from its parts.
  pub price_of :
      (v : ℕ) {own f check load checked loaded : ℕ} → own ≡ own_cost p v → f ≡ function_of p v → check ≡ check_cost p f → load ≡ load_cost p f →
      checked ≡ get_or entered v 0 * check → loaded ≡ get_or flags v 0 * load → own + checked + loaded ≡ price p entered flags v
  unfolding price
  price_of v own_is of_v check_is load_is checked_is loaded_is = rw (own_is, checked_is, loaded_is, check_is, load_is, of_v)
