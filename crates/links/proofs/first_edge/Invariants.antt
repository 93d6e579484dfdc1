-- `first_edge` halves the edges that are left. The loop's invariant: those below `low` are from lower vertices, and those from `high` on are not.
use Prim.Native.Nat.{◌-◌}
use Rattle.links.proofs.Halving.{Between}
use Rattle.links.proofs.first_edge.Given as goal

abbrev pub invariant-loop-low : goal.invariant-loop-low
invariant-loop-low l = Between l.d l.f l.v l.low l.high

abbrev pub decreases-loop-low : goal.decreases-loop-low
decreases-loop-low l = l.high - l.low
