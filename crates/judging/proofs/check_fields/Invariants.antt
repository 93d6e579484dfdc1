-- `check_fields` judges as `check_from` does. The invariant: what is left to judge from the present field is what was to be judged from the first,
-- the field is valid, and no more than five bytes a number are counted.
use Prim.Native.Nat.{◌-◌}
use Rattle.model.specs.File.{number_count}
use Rattle.judging.proofs.Judging.{Judging}
use Rattle.judging.proofs.check_fields.Given as goal

abbrev pub invariant-loop-field : goal.invariant-loop-field
invariant-loop-field l = Judging l.numbers l.field l.at l.start

abbrev pub decreases-loop-field : goal.decreases-loop-field
decreases-loop-field l = number_count - l.field.place
