-- `charges::mark_contested` keeps the answers for the vertices passed, and their count.
use Rattle.model.specs.Numbers.{problem_of}
use Rattle.charges.specs.Tests.{contested_by}
use Rattle.charges.proofs.Filling.{Tallying}
use Rattle.charges.proofs.mark_contested.Given as goal

abbrev pub invariant-loop-v : goal.invariant-loop-v
invariant-loop-v l = Tallying (problem_of l.l).vertex_count (contested_by (problem_of l.l) l.rivals l.held) l.v l.flags l.tally
