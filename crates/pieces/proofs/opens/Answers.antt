-- `opens` is the test of a first digit.
use borrow.Author.Tests.{le-leb, lt-leb}
use Rattle.pieces.proofs.Tests.{is_digit, no_digit, opens_none, opens_digit}
use Rattle.pieces.proofs.opens.Goals as goal

pub returns-then-not-is_ascii_digit : goal.returns-then-not-is_ascii_digit
returns-then-not-is_ascii_digit c = opens_none _ _ _ (no_digit c.args.c c.is_ascii_digit.ensures.value c.if-not-is_ascii_digit.true)

pub returns-then-least-digit : goal.returns-then-least-digit
returns-then-least-digit c = rw (le-leb _ _ c.if-least-digit.true) at (opens_digit c.args.least c.args.most c.args.c (is_digit c.args.c c.is_ascii_digit.ensures.value c.if-not-is_ascii_digit.false))

pub returns-else-least-digit : goal.returns-else-least-digit
returns-else-least-digit c = rw (lt-leb _ _ c.if-least-digit.false) (rw (lt-leb _ _ c.if-least-digit.false) at (opens_digit c.args.least c.args.most c.args.c (is_digit c.args.c c.is_ascii_digit.ensures.value c.if-not-is_ascii_digit.false)))
