-- `write_refusal` writes the sentence of the number and the place.
use Rattle.wording.proofs.Wording.{phrased, refusal_written}
use Rattle.wording.proofs.write_refusal.Goals as goal

pub write_numbered-requires : goal.write_numbered-requires
write_numbered-requires c = phrased c.args.refusal _ c.number-number.ensures

pub returns : goal.returns
returns c =
    refusal_written c.args.refusal _ _ c.number-number.ensures c.place-place.ensures c.write_numbered.ensures
