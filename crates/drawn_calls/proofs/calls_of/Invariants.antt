-- `calls_of` meets its contract. The loop's invariant: the word has what the first v vertices call.
use Rattle.drawn_calls.proofs.Calls.{CalledTo}
use Rattle.drawn_calls.proofs.calls_of.Given as goal

abbrev pub invariant-loop-v : goal.invariant-loop-v
invariant-loop-v l = CalledTo l.d l.f l.v l.word
