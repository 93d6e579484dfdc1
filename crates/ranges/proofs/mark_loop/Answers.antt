-- `ranges::mark_loop` is its definition: two words gain the loop's bit.
use Rattle.bits.proofs.Bits.{one_shl}
use Rattle.ranges.specs.Marks.{mark_loop}
use Rattle.ranges.proofs.mark_loop.Goals as goal

pub returns : goal.returns
unfolding mark_loop
returns c = rw (one_shl c.args.i c.requires.1.1)
