-- `read_phrase` goes past the phrase and reads the place.
use Rattle.std.proofs.Common.{rules}
use Rattle.sentences.proofs.Steps.{stops, words_known}
use Rattle.sentences.proofs.reading.read_phrase.Goals as goal

pub returns-in_err-end : goal.returns-in_err-end
returns-in_err-end c = stops c.args.text.now c.args.at _ _ (words_known c.args.text.now c.args.at c.phrase_of-phrase.ensures c.pass_words.ensures) (search rules)
