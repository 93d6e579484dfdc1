-- `write_line` writes the label, the number and the line's end.
use native.Mathlib.Omega.{arith}
use Rattle.decimals.proofs.Storing.{written_both}
use Rattle.slips.proofs.write_line.Goals as goal

pub returns : goal.returns
returns c =
    record { written = written_both c.write_labelled-behind.ensures.written c.write_text.ensures; upper_bound = omega (arith, c.write_labelled-behind.ensures.upper_bound, c.write_text.ensures.behind) }
