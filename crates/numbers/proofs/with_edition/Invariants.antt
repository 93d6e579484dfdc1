-- `with_edition` meets its contract. The loop's invariant: the edition and the first i fields are in place.
use Rattle.numbers.proofs.Edition.{WithEdition}
use Rattle.numbers.proofs.with_edition.Given as goal

abbrev pub invariant-loop-i : goal.invariant-loop-i
invariant-loop-i l = WithEdition l.fn.fields l.i l.numbers
