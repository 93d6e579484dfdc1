-- `close` meets its contract. The loop's invariant: the words tell what leads where by way of the functions below k.
use Rattle.model.specs.Inlined.{via}
use Rattle.drawn_calls.specs.Words.{told, Tells}
use Rattle.drawn_calls.proofs.close.Given as goal

abbrev pub invariant-loop-k : goal.invariant-loop-k
invariant-loop-k l = Tells (via (told l.initial.words) l.k) l.count l.words
