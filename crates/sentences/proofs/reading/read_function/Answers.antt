-- `read_function` reads the function and the end.
use Rattle.std.proofs.Common.{rules}
use Rattle.model.specs.Decimals.{text}
use Rattle.sentences.specs.Remarks.{after_function}
use Rattle.sentences.proofs.Steps.{counts}
use Rattle.sentences.proofs.reading.read_function.Goals as goal

pub returns : goal.returns
unfolding text after_function
returns c = counts c.args.text.now c.args.at after_function _ _ c.read_decimal.ensures c.requires (search rules) c.read_end.ensures
