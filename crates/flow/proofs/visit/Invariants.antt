-- `visit` brings on what its vertex has, edge by edge.
use Rattle.model.specs.Numbers.{problem_of}
use Rattle.flow.proofs.Visits.{Visiting}
use Rattle.flow.proofs.visit.Given as goal

abbrev pub invariant-loop-i : goal.invariant-loop-i
invariant-loop-i g l =
    Visiting l.l (g.F.Flow.flow l.flow (problem_of l.l)) l.starts (g.F.Flow.member l.brought) l.u l.i l.initial.marks l.initial.words l.marks l.words l.changed
