-- `write_fields` writes the file of numbers that are judged good. The invariant: the bytes still to be complete the file, and what is left to
-- judge is what was to be judged from the first field.
use Prim.Native.Nat.{◌-◌}
use Rattle.model.specs.File.{number_count}
use Rattle.writing.proofs.Writing.{Writing}
use Rattle.writing.proofs.write_fields.Given as goal

abbrev pub invariant-loop-field : goal.invariant-loop-field
invariant-loop-field l = Writing l.initial.buf l.numbers l.buf l.field l.at

abbrev pub decreases-loop-field : goal.decreases-loop-field
decreases-loop-field l = number_count - l.field.place
