-- `charges::visit_charge` puts a visit's price together: own cost, plus flag times check cost, plus flag times load cost.
use Prim.Native.Nat.{ℕ, ◌+◌}
use mathlib.Core.Path.{ap, ◌∙◌}
use native.Mathlib.Nat.{mul-le-mul_right}
use native.Mathlib.Omega.{arith}
use Rattle.lookup.proofs.Places.{facts, vertex_small, check_high, cost_high}
use Rattle.charges.specs.Tests.{flagged}
use Rattle.charges.proofs.Flags.{flags_low}
use Rattle.charges.proofs.Sizes.{own_function, visit_high}
use Rattle.charges.proofs.Prices.{price_of, price_flagged}
use Rattle.charges.proofs.visit_charge.Goals as goal

both : {A B : Type 0} → A × B → record { fact_1 : A; fact_2 : B }
both p = record { fact_1 = p.0; fact_2 = p.1 }

pub own_cost-own-requires : goal.own_cost-own-requires
own_cost-own-requires c = record { fact_1 = facts _ c.requires.checked_1; fact_2 = c.requires.checked_2 }

pub function_of-f-requires : goal.function_of-f-requires
function_of-f-requires c = record { fact_1 = facts _ c.requires.checked_1; fact_2 = c.requires.checked_2 }

pub check_of-check-requires : goal.check_of-check-requires
check_of-check-requires c = both (own_function _ c.requires.checked_1 _ c.requires.checked_2 c.function_of-f.ensures)

pub load_of-load-requires : goal.load_of-load-requires
load_of-load-requires c = both (own_function _ c.requires.checked_1 _ c.requires.checked_2 c.function_of-f.ensures)

pub bounds-entered-v : goal.bounds-entered-v
bounds-entered-v c = omega (arith, vertex_small _ (facts _ c.requires.checked_1) _ c.requires.checked_2)

pub times-requires : goal.times-requires
times-requires c = (flags_low c.requires.entered_told_1).low _ c.requires.checked_2

pub add-unloaded-requires : goal.add-unloaded-requires
add-unloaded-requires c =
    let (ok, known) = own_function _ c.requires.checked_1 _ c.requires.checked_2 c.function_of-f.ensures in
    omega (
      arith,
      c.own_cost-own.ensures,
      cost_high _ ok _ c.requires.checked_2,
      c.times.ensures,
      mul-le-mul_right c.check_of-check.result.0 ((flags_low c.requires.entered_told_1).low _ c.requires.checked_2),
      c.check_of-check.ensures,
      check_high _ ok _ known,
    )

pub bounds-flags-v : goal.bounds-flags-v
bounds-flags-v c = omega (arith, vertex_small _ (facts _ c.requires.checked_1) _ c.requires.checked_2)

pub times-requires-2 : goal.times-requires-2
times-requires-2 c = c.requires.entered_told_2.low _ c.requires.checked_2

pub add-requires : goal.add-requires
add-requires c =
    omega (arith, (ap (λ (x : ℕ). x + c.times-2.result.0) c.add-unloaded.ensures ∙ price_of _ _ _ _ c.own_cost-own.ensures c.function_of-f.ensures c.check_of-check.ensures c.load_of-load.ensures c.times.ensures c.times-2.ensures ∙ price_flagged _ _ _ c.requires.entered_told_1 c.requires.entered_told_2 _ c.requires.checked_2), visit_high _ c.requires.checked_1 (flagged c.args.flags.now) _ c.requires.checked_2)

pub returns : goal.returns
returns c = c.add.ensures ∙ (ap (λ (x : ℕ). x + c.times-2.result.0) c.add-unloaded.ensures ∙ price_of _ _ _ _ c.own_cost-own.ensures c.function_of-f.ensures c.check_of-check.ensures c.load_of-load.ensures c.times.ensures c.times-2.ensures ∙ price_flagged _ _ _ c.requires.entered_told_1 c.requires.entered_told_2 _ c.requires.checked_2)
