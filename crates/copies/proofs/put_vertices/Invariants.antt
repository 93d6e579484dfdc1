-- `put_vertices` meets its contract. The loop's invariant: the numbers of the first i rows are stored.
use Rattle.copies.proofs.Vertices.{CopiedTo}
use Rattle.copies.proofs.put_vertices.Given as goal

abbrev pub invariant-loop-i : goal.invariant-loop-i
invariant-loop-i l = CopiedTo l.d l.rows l.initial.numbers l.i l.numbers
