-- `sweep` visits one vertex after the other.
use Rattle.model.specs.Numbers.{problem_of}
use Rattle.flow.proofs.Sweeps.{Sweeping}
use Rattle.flow.proofs.sweep.Given as goal

abbrev pub invariant-loop-u : goal.invariant-loop-u
invariant-loop-u g l = Sweeping l.l (g.F.Flow.flow l.flow (problem_of l.l)) l.starts l.u l.initial.words l.marks l.words l.changed
