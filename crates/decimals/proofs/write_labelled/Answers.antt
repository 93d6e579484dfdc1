-- `write_labelled` writes the label and behind it the digits.
use native.Mathlib.Omega.{arith}
use Rattle.decimals.proofs.Digits.{word_digits}
use Rattle.decimals.proofs.Storing.{written_both, written_size}
use Rattle.decimals.proofs.write_labelled.Goals as goal

pub write_decimal-requires : goal.write_decimal-requires
write_decimal-requires c =
    let w = c.write_text-behind.ensures in
    omega (arith, w.behind, written_size w, c.requires, word_digits _ c.ranges.n.fits)

pub returns : goal.returns
returns c =
    let w = c.write_text-behind.ensures in
    record { written = written_both w c.write_decimal.ensures; upper_bound = omega (arith, w.behind, c.write_decimal.ensures.behind, word_digits _ c.ranges.n.fits) }
