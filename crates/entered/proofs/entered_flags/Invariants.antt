-- `entered::entered_flags` flags what the edges passed enter.
use Rattle.model.specs.Numbers.{problem_of}
use Rattle.entered.proofs.Marking.{Marked}
use Rattle.entered.proofs.entered_flags.Given as goal

abbrev pub invariant-loop-i : goal.invariant-loop-i
invariant-loop-i l = Marked (problem_of l.l) l.i l.flags
