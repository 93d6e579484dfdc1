-- `charges::times` stays within what a load cost can be: a flag is at most 1.
use native.Mathlib.Nat.{mul-le-mul_right}
use native.Mathlib.Omega.{arith}
use Rattle.charges.proofs.times.Goals as goal

pub overflow_mul-product : goal.overflow_mul-product
overflow_mul-product c = omega (arith, c.struct_known-1.given, mul-le-mul_right c.args.a.0 c.requires)
