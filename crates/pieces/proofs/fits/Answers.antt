-- `fits` is the test of a further digit.
use Rattle.std.proofs.Common.{inl, inr}
use borrow.Author.Tests.{le-leb, lt-leb}
use Rattle.pieces.proofs.Tests.{is_digit, no_digit, fits_none, fits_zero, fits_digit}
use Rattle.pieces.proofs.fits.Goals as goal

pub returns-then-not-is_ascii_digit : goal.returns-then-not-is_ascii_digit
returns-then-not-is_ascii_digit c =
    elim c.then-not-is_ascii_digit.either [ inl h ↦ fits_none _ _ _ (no_digit c.args.c c.is_ascii_digit.ensures.value h) | inr h ↦ fits_zero _ _ _ h.1 ]

pub returns-then-digit-most : goal.returns-then-digit-most
returns-then-digit-most c = rw (le-leb _ _ c.if-digit-most.true) at (fits_digit c.args.v c.args.most c.args.c (is_digit c.args.c c.is_ascii_digit.ensures.value c.if-not-is_ascii_digit.false) c.if-v-eq0.false)

pub returns-else-digit-most : goal.returns-else-digit-most
returns-else-digit-most c = rw (lt-leb _ _ c.if-digit-most.false) (rw (lt-leb _ _ c.if-digit-most.false) at (fits_digit c.args.v c.args.most c.args.c (is_digit c.args.c c.is_ascii_digit.ensures.value c.if-not-is_ascii_digit.false) c.if-v-eq0.false))
