-- `entries::mark_ends` meets its contract: the first i edges have made their marks.
use Rattle.lookup.specs.Lists.{edges_in}
use Rattle.entries.specs.Marks.{EndsMarked}
use Rattle.entries.proofs.mark_ends.Given as goal

abbrev pub invariant-loop-i : goal.invariant-loop-i
invariant-loop-i l = EndsMarked (edges_in l.l) l.i l.entered l.exited
