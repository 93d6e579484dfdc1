-- The lent list is that of the problem's loops, which are ranged.
use Rattle.std.proofs.Common.{sym, subst}
use Rattle.ranges.specs.Ranges.{Ranged}
use Rattle.ranges.proofs.Listed.{loops_ranged}
use Rattle.graph.proofs.judge_loops.Goals as goal

pub first_bad-requires : goal.first_bad-requires
first_bad-requires c = subst Ranged (sym c.requires.1) (loops_ranged c.args.l.now c.requires.0)

pub marks_of-requires : goal.marks_of-requires
marks_of-requires c = subst Ranged (sym c.requires.1) (loops_ranged c.args.l.now c.requires.0)
