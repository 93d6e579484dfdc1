-- `keep_listed` keeps what is listed, function by function.
use Rattle.filled.specs.Filling.{Filling}
use Rattle.filled.proofs.keep_listed.Given as goal

abbrev pub invariant-loop-f : goal.invariant-loop-f
invariant-loop-f l = Filling l.layout l.f l.regions l.used
