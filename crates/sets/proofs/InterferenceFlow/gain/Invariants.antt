-- `gain` gains a row word by word.
use Rattle.bits.specs.Words.{Step, Row, RowMember}
use Rattle.sets.specs.Sets.{set_at}
use Rattle.sets.proofs.InterferenceFlow.gain.Given as goal

abbrev pub invariant-loop-f : goal.invariant-loop-f
invariant-loop-f l = Step (Row (set_at l.v) (RowMember l.row) l.f) l.initial.table l.table l.changed
