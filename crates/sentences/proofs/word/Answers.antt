-- `word` writes the sentence: the front of the room in which it was made.
use Rattle.std.proofs.Common.{rules}
use Rattle.model.specs.Sentences.{word_remark}
use Rattle.decimals.proofs.Storing.{written_front}
use Rattle.sentences.proofs.word.Goals as goal

pub returns-clause-text_after : goal.returns-clause-text_after
unfolding word_remark
returns-clause-text_after c = let front = written_front c.write_remark-need.ensures in search rules
