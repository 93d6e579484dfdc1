-- `read_decimal` answers as `readValue` does.
use Rattle.pieces.proofs.Reading.{Underway}
use Rattle.pieces.proofs.read_decimal.Given as goal

abbrev pub invariant-loop-pos : goal.invariant-loop-pos
invariant-loop-pos l = Underway l.text l.at l.least l.most l.value l.pos
