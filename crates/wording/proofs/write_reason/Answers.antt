-- `write_reason` writes the sentence of the reason that it is.
use Rattle.model.specs.Decimals.{text}
use Rattle.model.specs.Sentences.{sentence}
use Rattle.decimals.proofs.Storing.{written_both}
use Rattle.wording.proofs.Wording.{reason_written}
use Rattle.wording.proofs.write_reason.Goals as goal

pub returns-in-EveryVisit : goal.returns-in-EveryVisit
unfolding sentence text
returns-in-EveryVisit c =
    reason_written _ _ c.in-EveryVisit.is (written_both c.write_labelled-named.ensures.written c.write_text.ensures)

pub returns-in-FirstLoad : goal.returns-in-FirstLoad
unfolding sentence text
returns-in-FirstLoad c = reason_written _ _ c.in-FirstLoad.is c.write_text-in-FirstLoad.ensures

pub returns-in-Never : goal.returns-in-Never
unfolding sentence text
returns-in-Never c = reason_written _ _ c.in-Never.is c.write_text-in-Never.ensures
