-- `walk::judge` judges by entry. The loop's invariant: what is left to judge from i on is what was to be judged.
use Rattle.model.specs.Numbers.{problem_of}
use Rattle.walk.proofs.Entries.{Judging}
use Rattle.walk.proofs.judge.Given as goal

abbrev pub invariant-loop-i : goal.invariant-loop-i
invariant-loop-i l = Judging (problem_of l.l) l.walk l.i l.u l.counts
