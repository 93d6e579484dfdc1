-- `row_leaving` fills a row word by word.
use Rattle.sets.specs.Sets.{Leaves}
use Rattle.sets.proofs.row_leaving.Given as goal

abbrev pub invariant-loop-f : goal.invariant-loop-f
invariant-loop-f l = Leaves l.table l.u l.g l.f l.row
