-- `copy_out` copies row by row.
use Rattle.interference.specs.Copies.{Copied}
use Rattle.interference.proofs.copy_out.Given as goal

abbrev pub invariant-loop-v : goal.invariant-loop-v
invariant-loop-v l = Copied l.table l.v l.count l.initial.words l.words
