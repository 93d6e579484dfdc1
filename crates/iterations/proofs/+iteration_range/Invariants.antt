-- The cycle of calls {iteration, range}: a range's measure is one more than twice its length, an iteration's twice its range's length.
use Rattle.std.proofs.Common.{◌+◌, ◌-◌, ◌*◌}
use Rattle.model.specs.Graph.{loop}
use Rattle.lookup.specs.Lists.{loops_in}
use Rattle.iterations.specs.Filling.{Partly}
use Rattle.iterations.proofs.+iteration_range.Given as goal

abbrev pub decreases-iteration : goal.decreases-iteration
decreases-iteration a = 2 * ((loop (loops_in a.l.now) a.i).last + 1 - (loop (loops_in a.l.now) a.i).header)

abbrev pub decreases-range : goal.decreases-range
decreases-range a = 2 * (a.to - a.first) + 1

abbrev pub invariant-range-loop-v : goal.invariant-range-loop-v
invariant-range-loop-v l = Partly l.l l.charge l.enter l.d l.e l.w l.first l.to l.v

abbrev pub decreases-range-loop-v : goal.decreases-range-loop-v
decreases-range-loop-v l = l.to - l.v
