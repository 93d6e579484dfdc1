-- `distances` takes the states in the order in which they got their numbers, until all had their turn.
use Prim.Native.Nat.{◌-◌}
use Rattle.model.specs.Numbers.{problem_of}
use Rattle.ways.specs.Ways.{most_states}
use Rattle.distances.specs.Searching.{Searching}
use Rattle.distances.proofs.distances.Given as goal

abbrev pub invariant-loop-first : goal.invariant-loop-first
invariant-loop-first l = Searching (problem_of l.l) l.f l.g l.v l.steps l.queue l.first l.end

abbrev pub decreases-loop-first : goal.decreases-loop-first
decreases-loop-first l = most_states - l.first
