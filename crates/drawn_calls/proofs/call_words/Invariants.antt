-- `call_words` meets its contract. The loop's invariant: the words of the first f functions tell what they call.
use Rattle.model.specs.Inlined.{calls}
use Rattle.drawn_calls.specs.Words.{Tells}
use Rattle.drawn_calls.proofs.call_words.Given as goal

abbrev pub invariant-loop-f : goal.invariant-loop-f
invariant-loop-f l = Tells (calls l.d) l.f l.words
