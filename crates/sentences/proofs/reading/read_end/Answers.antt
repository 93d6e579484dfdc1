-- `read_end` goes past the last words, and nothing may be left.
use Rattle.std.proofs.Common.{rules}
use Rattle.sentences.proofs.Steps.{stops, passes, ends, left_over}
use Rattle.sentences.proofs.reading.read_end.Goals as goal

pub returns-in_err-end : goal.returns-in_err-end
returns-in_err-end c = stops c.args.text.now c.args.at _ _ c.pass_words.ensures (search rules)

pub returns-then-end-text : goal.returns-then-end-text
returns-then-end-text c =
    passes c.args.text.now c.args.at _ _ c.pass_words.ensures c.requires (search rules) (left_over _ _ _ c.if-end-text.true c.no_sentence.ensures)

pub returns : goal.returns
returns c = passes c.args.text.now c.args.at _ _ c.pass_words.ensures c.requires (search rules) (ends _ _ _ c.if-end-text.false)
