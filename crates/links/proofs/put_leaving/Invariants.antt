-- `put_leaving` puts the edges from the row's vertex. The loop's invariant: those of the first j edges are put, and no later edge is from a lower vertex.
use Rattle.model.specs.Inlining.{row}
use Rattle.links.proofs.Leaving.{LeavingTo}
use Rattle.links.proofs.put_leaving.Given as goal

abbrev pub invariant-loop-j : goal.invariant-loop-j
invariant-loop-j l = LeavingTo l.d l.i (row l.f l.v l.first) l.table l.initial.numbers l.k l.j l.numbers l.at
