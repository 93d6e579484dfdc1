-- `offers::best_into` follows the chain of the edges to v, and keeps the greatest of what they bring.
use Rattle.offers.proofs.Offers.{Followed}
use Rattle.offers.proofs.best_into.Given as goal

abbrev pub invariant-loop-next : goal.invariant-loop-next
invariant-loop-next l = Followed l.l l.d l.w l.v l.more.0 l.origin l.best.0 l.next

abbrev pub decreases-loop-next : goal.decreases-loop-next
decreases-loop-next l = l.next
