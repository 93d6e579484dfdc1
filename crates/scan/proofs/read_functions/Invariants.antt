-- `read_functions` reads on as the steps from field to field do. The invariant: what is left to read is the same.
use Prim.Native.Nat.{◌-◌}
use Rattle.model.specs.File.{number_count}
use Rattle.scan.specs.Functions.{Further}
use Rattle.scan.proofs.read_functions.Given as goal

abbrev pub invariant-loop-field : goal.invariant-loop-field
invariant-loop-field l = Further l.bytes l.initial.far.field l.initial.far.at l.initial.far.start l.initial.numbers l.far.field l.far.at l.far.start l.numbers

abbrev pub decreases-loop-field : goal.decreases-loop-field
decreases-loop-field l = number_count - l.far.field.place
