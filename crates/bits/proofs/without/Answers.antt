-- `without` takes one member out.
use Rattle.bits.proofs.Bits.{one_shl, without_members}
use Rattle.bits.proofs.without.Goals as goal

pub returns : goal.returns
returns c = rw (one_shl c.args.g c.requires) (without_members c.args.w c.args.g)
