-- `phrases` is the constant table, whose bytes are the quoted texts.
use mathlib.Core.Path.{refl}
use Rattle.model.specs.Decimals.{text}
use Rattle.model.specs.Sentences.{phrases}
use Rattle.phrases.specs.Joined.{join, joined}
use Rattle.phrases.proofs.phrases.Goals as goal

pub returns : goal.returns
unfolding text phrases join joined
returns c = refl
