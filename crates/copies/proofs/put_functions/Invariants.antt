-- `put_functions` meets its contract. The loop's invariant: the numbers of the first i functions are stored.
use Rattle.model.specs.Numbers.{function_numbers, table}
use Rattle.model.specs.Drawings.{drawn_function}
use Rattle.model.specs.Places as places
use Rattle.numbers.proofs.Places.{Storing}
use Rattle.copies.proofs.put_functions.Given as goal

abbrev pub invariant-loop-i : goal.invariant-loop-i
invariant-loop-i l = Storing function_numbers l.count places.size (table l.count (drawn_function l.d)) l.initial.numbers l.i l.numbers
