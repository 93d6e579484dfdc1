-- `results` writes the four lines, one behind the other.
use Rattle.model.specs.Decimals.{text}
use Rattle.model.specs.Slips.{line, result_lines}
use Rattle.decimals.proofs.Storing.{written_both}
use Rattle.slips.proofs.results.Goals as goal

pub returns : goal.returns
unfolding result_lines line text
returns c =
    written_both (written_both (written_both c.write_line-need.ensures.written c.write_line-charged.ensures.written) c.write_line-first.ensures.written) c.write_line.ensures.written
