-- `below` has the numbers below n.
use Rattle.bits.proofs.Bits.{below_members}
use Rattle.bits.proofs.below.Goals as goal

pub returns : goal.returns
returns c = λ b. below_members c.args.n b c.requires.1
