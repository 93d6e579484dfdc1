-- `filled_in` is its definition: what is listed, and then a free region a function.
use Rattle.filled.specs.Filling.{Filling}
use Rattle.filled.proofs.filled_in.Given as goal

abbrev pub invariant-loop-f : goal.invariant-loop-f
invariant-loop-f l = Filling l.layout l.f l.regions l.used
