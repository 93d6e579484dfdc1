-- `refused` writes the number and the place of a refusal.
use Rattle.model.specs.Decimals.{text}
use Rattle.model.specs.Slips.{line}
use Rattle.slips.proofs.Parts.{refusal_written}
use Rattle.slips.proofs.refused.Goals as goal

pub returns : goal.returns
unfolding line text
returns c =
    refusal_written _ _ _ c.number-number.ensures c.place-place.ensures c.write_labelled-behind.ensures.written c.write_line.ensures.written
