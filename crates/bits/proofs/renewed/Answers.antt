-- `renewed` takes the rivals out and adds one member.
use Rattle.bits.proofs.Bits.{one_shl}
use Rattle.bits.proofs.Members.{renewed_members}
use Rattle.bits.proofs.renewed.Goals as goal

pub returns : goal.returns
returns c = rw (one_shl c.args.g c.requires) (renewed_members c.args.w c.args.rivals c.args.g)
