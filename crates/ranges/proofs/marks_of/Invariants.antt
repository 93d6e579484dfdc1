-- The first i loops are marked.
use Rattle.std.proofs.Common.{◌≡◌}
use Rattle.ranges.specs.Marks.{marks_of}
use Rattle.ranges.proofs.marks_of.Given as goal

abbrev pub invariant-loop-i : goal.invariant-loop-i
invariant-loop-i l = l.marks ≡ marks_of l.loops l.i
