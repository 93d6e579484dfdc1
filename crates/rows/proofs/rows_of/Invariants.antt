-- `rows_of` meets its contract. The loop's invariant: the rows up to `last` are the drawing's first rows.
use Rattle.rows.proofs.Going.{Going}
use Rattle.rows.proofs.rows_of.Given as goal

abbrev pub invariant-loop-last : goal.invariant-loop-last
invariant-loop-last l = Going l.d l.rows l.last
