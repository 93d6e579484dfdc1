-- `stays::stay_in` adds the entry and the iterations.
use Prim.Native.Nat.{ℕ, ◌+◌, ◌-◌, ◌*◌, min}
use mathlib.Core.Path.{◌≡◌}
use native.Mathlib.Omega.{arith}
use Rattle.stays.specs.Tables.{cap}
use Rattle.lookup.proofs.Places.{bound_low}
use Rattle.chains.proofs.Checks.{facts}
use Rattle.stays.proofs.stay_in.Goals as goal

added : (turn entry : ℕ) {bound at turns r : ℕ} → at ≡ bound → turns ≡ min cap ((at - 1) * turn) → r ≡ min cap (entry + turns) → r ≡ min cap (entry + (bound - 1) * turn)
added turn entry {bound} {turns = turns} is product total = let p : turns ≡ min cap ((bound - 1) * turn) = rw is at product in omega arith

pub loop_bound-requires-clause-fact_1 : goal.loop_bound-requires-clause-fact_1
loop_bound-requires-clause-fact_1 c = facts c.requires.fact_1

pub overflow_sub-loop_bound : goal.overflow_sub-loop_bound
overflow_sub-loop_bound c = omega (arith, c.loop_bound.ensures, bound_low _ (facts c.requires.fact_1) _ c.requires.fact_2)

pub returns : goal.returns
returns c = added _ _ c.loop_bound.ensures c.capped_product-turns.ensures c.capped_sum.ensures
