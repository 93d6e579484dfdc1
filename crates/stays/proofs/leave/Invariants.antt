-- `stays::leave` follows the chain of the loops around u, and adds up those that do not hold v.
use Rattle.stays.proofs.Leaving.{Left}
use Rattle.stays.proofs.leave.Given as goal

abbrev pub invariant-loop-next : goal.invariant-loop-next
invariant-loop-next l = Left l.l l.w l.u l.v l.sum.0 l.next

abbrev pub decreases-loop-next : goal.decreases-loop-next
decreases-loop-next l = l.next
