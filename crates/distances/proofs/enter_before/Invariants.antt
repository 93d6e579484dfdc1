-- `enter_before` follows the chain of the edges to w.
use Rattle.distances.proofs.Along.{Along}
use Rattle.distances.proofs.enter_before.Given as goal

abbrev pub invariant-loop-next : goal.invariant-loop-next
invariant-loop-next l = Along l.l l.f l.g l.w l.t l.number l.initial.steps l.initial.queue l.end l.next l.steps l.queue l.last

abbrev pub decreases-loop-next : goal.decreases-loop-next
decreases-loop-next l = l.next
