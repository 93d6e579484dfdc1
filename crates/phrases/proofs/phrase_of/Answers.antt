-- `phrase_of` cuts the table where the phrase begins and where it ends.
use Rattle.model.specs.Decimals.{text}
use Rattle.model.specs.Sentences.{phrases}
use Rattle.phrases.specs.Joined.{starts_from, starts}
use Rattle.phrases.proofs.Cut.{in_table}
use Rattle.phrases.proofs.phrase_of.Goals as goal

pub slice_bounds-result-end : goal.slice_bounds-result-end
unfolding starts starts_from phrases text
slice_bounds-result-end c = (in_table _ _ c.requires).1

pub returns : goal.returns
unfolding starts starts_from phrases text
returns c = (in_table _ _ c.requires).2
