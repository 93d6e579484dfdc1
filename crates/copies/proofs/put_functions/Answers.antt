use mathlib.Core.Path.{refl}
use Rattle.model.specs.Numbers.{function_numbers}
use Rattle.model.specs.Places as places
use Rattle.numbers.proofs.Places.{stored_all}
use Rattle.numbers.proofs.Tables.{table_none, table_more}
use Rattle.copies.proofs.put_functions.Goals as goal

pub loop-i-init : goal.loop-i-init
loop-i-init c = table_none function_numbers places.function_width (λ f. refl) _ places.size _ _

pub loop-i-preserved : goal.loop-i-preserved
loop-i-preserved c =
    table_more function_numbers places.function_width (λ f. refl) _ places.size _ _ _ _ _ _ c.loop-i-test.true c.loop-i.invariant
    (rw (c.drawn_at.ensures, c.drawn_at-in-loop-i.ensures, c.drawn_at-in-loop-i-2.ensures) refl)
    c.put.ensures

pub returns : goal.returns
returns c = (stored_all function_numbers _ places.size _ _ _ _ c.loop-i-test.false c.loop-i.invariant).is
