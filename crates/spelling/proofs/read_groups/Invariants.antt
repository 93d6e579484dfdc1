-- `read_groups` answers as `readNumber` does. The invariant: a reading under way, with at most `left` bytes to come.
use Rattle.spelling.proofs.Laws.{Underway}
use Rattle.spelling.proofs.read_groups.Given as goal

abbrev pub invariant-loop-left : goal.invariant-loop-left
invariant-loop-left l = Underway l.bytes l.at l.left l.pos l.unit l.value
