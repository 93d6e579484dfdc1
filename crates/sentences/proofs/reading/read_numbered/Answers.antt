-- `read_numbered` goes past what stands behind the number.
use Rattle.std.proofs.Common.{rules}
use Rattle.model.specs.Decimals.{text}
use Rattle.sentences.specs.Remarks.{after_number}
use Rattle.sentences.proofs.Steps.{stops, passes}
use Rattle.sentences.proofs.reading.read_numbered.Goals as goal

pub returns-in_err-end : goal.returns-in_err-end
unfolding text after_number
returns-in_err-end c = stops c.args.text.now c.args.at (text ": ") _ c.pass_words.ensures (search rules)

pub returns : goal.returns
unfolding text after_number
returns c = passes c.args.text.now c.args.at (text ": ") _ c.pass_words.ensures c.requires.0 (search rules) c.read_phrase.ensures
