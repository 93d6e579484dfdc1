-- `early::functions_in` has the members of the words passed.
use Rattle.early.specs.Early.{Gathered}
use Rattle.early.proofs.functions_in.Given as goal

abbrev pub invariant-loop-v : goal.invariant-loop-v
invariant-loop-v l = Gathered l.early l.first l.v l.functions
