-- `second::second_flag` sets the flag of an early vertex that no loop holds, and else gives it as it was.
use native.Mathlib.Omega.{arith}
use Rattle.second.proofs.Flags.{flag_held, flag_early, flag_plain}
use Rattle.second.proofs.second_flag.Goals as goal

pub returns-then-loops-v-gt0 : goal.returns-then-loops-v-gt0
returns-then-loops-v-gt0 c = flag_held _ _ _ _ c.if-loops-v-gt0.true

pub returns-then-early-v-gt0 : goal.returns-then-early-v-gt0
returns-then-early-v-gt0 c = flag_early _ _ _ _ (omega (arith, c.if-loops-v-gt0.false)) c.if-early-v-gt0.true

pub returns : goal.returns
returns c = flag_plain _ _ _ _ (omega (arith, c.if-loops-v-gt0.false)) (omega (arith, c.if-early-v-gt0.false))
