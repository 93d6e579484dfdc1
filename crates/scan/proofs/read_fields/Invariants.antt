-- `read_fields` reads as `read_from` does. The invariant: what is left to read from the present field is what was to be from the first, and the field is valid.
use Prim.Native.Nat.{◌-◌}
use Rattle.model.specs.File.{number_count}
use Rattle.scan.proofs.Reading.{Reading}
use Rattle.scan.proofs.read_fields.Given as goal

abbrev pub invariant-loop-field : goal.invariant-loop-field
invariant-loop-field l = Reading l.bytes l.initial.numbers l.numbers l.field l.at l.start

abbrev pub decreases-loop-field : goal.decreases-loop-field
decreases-loop-field l = number_count - l.field.place
