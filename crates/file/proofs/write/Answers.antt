-- `write` meets Write's definition: the problem's checks, and then what `put_file` says of the problem.
use mathlib.Core.Path.{refl, sym}
use Rattle.std.proofs.lemmas.Result.{err_from_is_err_and}
use Rattle.model.specs.Outcomes.{write_outcome}
use Rattle.model.proofs.Answers.{equal_outcome}
use Rattle.file.proofs.Stages.{not_written}
use Rattle.file.proofs.write.Goals as goal

told : {A B C : Type 0} → A × (B × C) → record { value_1 : A; value_2 : B; result_value : C }
told p = record { value_1 = p.0; value_2 = p.1.0; result_value = p.1.1 }

pub returns-in_err-need : goal.returns-in_err-need
returns-in_err-need c =
    let p = err_from_is_err_and c.from_residual.result c.from_residual.ensures.1 in
    rw (p.1, p.2) (told (equal_outcome write_outcome (not_written _ _ _ c.numbers_of-numbers.ensures _ c.in_err-need.ensures _ refl)))

pub put_file-requires : goal.put_file-requires
put_file-requires c = sym c.in_ok-need.ensures

pub returns : goal.returns
returns c =
    let says = c.put_file.ensures _ c.numbers_of-numbers.ensures in
    told (equal_outcome write_outcome (says.answer, says.buffer))
