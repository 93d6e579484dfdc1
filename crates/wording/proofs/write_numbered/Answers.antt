-- `write_numbered` writes the parts of the sentence one behind another.
use Rattle.model.specs.Decimals.{text}
use Rattle.wording.proofs.Wording.{numbered_written}
use Rattle.wording.proofs.write_numbered.Goals as goal

pub returns : goal.returns
unfolding text
returns c =
    numbered_written _ _ c.requires c.write_labelled-numbered.ensures.written c.write_text-behind.ensures c.write_phrase-placed.ensures.written c.write_text.ensures
