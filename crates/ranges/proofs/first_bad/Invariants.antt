-- None of the first j ranges is bad, and the set has where they end.
use Rattle.std.proofs.Common.{◌≡◌, length}
use Rattle.model.proofs.Search.{Searched}
use Rattle.ranges.specs.Ranges.{bad_at}
use Rattle.ranges.proofs.Turns.{ends_of}
use Rattle.ranges.proofs.first_bad.Given as goal

abbrev pub invariant-loop-j : goal.invariant-loop-j
invariant-loop-j l = Searched (length l.loops) (bad_at l.loops l.end) l.j × (l.ends ≡ ends_of l.loops l.j)
