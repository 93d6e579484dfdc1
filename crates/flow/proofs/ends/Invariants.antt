-- `ends` notes for each edge that it is the last of its start so far.
use Rattle.model.specs.Numbers.{problem_of}
use Rattle.flow.specs.Starts.{Ends}
use Rattle.flow.proofs.ends.Given as goal

abbrev pub invariant-loop-i : goal.invariant-loop-i
invariant-loop-i l = Ends (problem_of l.l) l.i l.behind
