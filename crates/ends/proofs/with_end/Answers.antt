-- `with_end` sets the vertex's bit.
use Prim.Native.Nat.{◌-◌}
use native.Mathlib.Omega.{arith}
use borrow.Author.Tests.{lt-ltb, le-ltb}
use Rattle.ends.specs.Sets.{half, with_end}
use Rattle.ends.proofs.Members.{one_shl}
use Rattle.ends.proofs.with_end.Goals as goal

pub returns-then-v-lt-HALF : goal.returns-then-v-lt-HALF
unfolding with_end
returns-then-v-lt-HALF c = let v = c.args.v in rw (lt-ltb v half (omega arith), one_shl v (omega arith))

pub returns : goal.returns
unfolding with_end
returns c = let v = c.args.v in rw (le-ltb v half (omega arith), one_shl (v - half) (omega arith))
