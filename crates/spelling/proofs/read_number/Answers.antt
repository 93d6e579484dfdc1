-- `read_number` reads a number of one byte at once, and leaves the others to `read_groups`.
use mathlib.Core.Path.{sym}
use Rattle.spelling.proofs.Laws.{one_byte}
use Rattle.spelling.proofs.read_number.Goals as goal

pub returns-then-b-lt128 : goal.returns-then-b-lt128
returns-then-b-lt128 c = sym (one_byte _ _ c.if-at-bytes.true c.if-b-lt128.true)
