-- `pass_words` goes as far as the words stand there.
use Rattle.pieces.proofs.Reading.{Passing}
use Rattle.pieces.proofs.pass_words.Given as goal

abbrev pub invariant-loop-i : goal.invariant-loop-i
invariant-loop-i l = Passing l.text l.at l.words l.i
