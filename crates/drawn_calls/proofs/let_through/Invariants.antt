-- `let_through` meets its contract. The loop's invariant: k is let through to the functions below f, and the other words are as they were.
use Rattle.drawn_calls.proofs.InPlace.{LetTo}
use Rattle.drawn_calls.proofs.let_through.Given as goal

abbrev pub invariant-loop-f : goal.invariant-loop-f
invariant-loop-f l = LetTo l.initial.words l.k l.f l.words
