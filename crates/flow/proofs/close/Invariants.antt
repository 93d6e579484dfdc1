-- `close` sweeps until the table is settled. Each turn raises the sum of the words or is the last.
use Rattle.model.specs.Numbers.{problem_of}
use Rattle.flow.proofs.Sweeps.{Closing, room}
use Rattle.flow.proofs.close.Given as goal

abbrev pub invariant-loop-changed : goal.invariant-loop-changed
invariant-loop-changed g l = Closing l.l (g.F.Flow.flow l.flow (problem_of l.l)) l.begins l.initial.words l.marks l.words l.changed

abbrev pub decreases-loop-changed : goal.decreases-loop-changed
decreases-loop-changed g l = room (g.F.Flow.flow l.flow (problem_of l.l)).size l.words l.changed
