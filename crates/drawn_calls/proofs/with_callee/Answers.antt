-- `with_callee` sets the callee's bit, where there is one.
use Prim.Native.Nat.{◌<◌}
use mathlib.Core.Path.{sym}
use native.Mathlib.Omega.{arith}
use Rattle.model.specs.Places as places
use Rattle.drawn_calls.proofs.Callees.{callee_set, callee_unset}
use Rattle.drawings.proofs.Callees.{some_callee}
use Rattle.drawn_calls.proofs.with_callee.Goals as goal
use Rattle.drawn_calls.proofs.with_callee.Goals.{Then-calls_some}

low : (c : Then-calls_some) → c.args.callee < places.most_functions
low c = c.requires _ (some_callee _ (sym c.if-calls_some.ensures))

pub overflow_cast-result : goal.overflow_cast-result
overflow_cast-result c = omega (arith, low (goal.at.overflow_cast-result c).Then-calls_some)

pub overflow_shl-result : goal.overflow_shl-result
overflow_shl-result c = omega (arith, low (goal.at.overflow_shl-result c).Then-calls_some)

pub returns-then-calls_some : goal.returns-then-calls_some
returns-then-calls_some c = callee_set _ _ (sym c.if-calls_some.ensures) (low (goal.at.returns-then-calls_some c).Then-calls_some)

pub returns-else-calls_some : goal.returns-else-calls_some
returns-else-calls_some c = callee_unset c.args.callee _ (sym c.if-calls_some.ensures)
