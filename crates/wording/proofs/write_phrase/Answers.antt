-- `write_phrase` writes the phrase and behind it the digits of the place.
use native.Mathlib.Omega.{arith}
use mathlib.Core.Path.{ap}
use lib.ListN.{length}
use Rattle.phrases.proofs.Rules.{phrase_size}
use Rattle.wording.proofs.Wording.{label_known}
use Rattle.wording.proofs.write_phrase.Goals as goal

pub write_labelled-requires : goal.write_labelled-requires
write_labelled-requires c =
    omega (arith, ap length c.phrase_of-phrase.ensures, phrase_size c.args.number, c.requires)

pub returns : goal.returns
returns c =
    record { written = label_known _ c.phrase_of-phrase.ensures c.write_labelled.ensures.written; upper_bound = omega (arith, c.write_labelled.ensures.upper_bound, ap length c.phrase_of-phrase.ensures, phrase_size c.args.number) }
