-- `read_functions` reads on as the steps from field to field do.
use mathlib.Core.Path.{sym, ◌∙◌}
use native.Mathlib.Omega.{arith}
use Rattle.fields.specs.Valid.{Placed}
use Rattle.scan.proofs.Functions.{not_further, here_placed, nearer, one_further}
use Rattle.scan.proofs.read_functions.Goals as goal
use Rattle.scan.proofs.read_functions.Goals.{In-loop-field}

place : (c : In-loop-field) → Placed c.loop-field.far.field
place c = here_placed c.loop-field.invariant (c.in_functions.ensures c.loop-field-test.true)

pub loop-field-init : goal.loop-field-init
loop-field-init c = not_further c.requires.readable_1 c.requires.readable_2

pub in_range-requires-clause-placed : goal.in_range-requires-clause-placed
in_range-requires-clause-placed c = place (goal.at.in_range-requires-clause-placed c).In-loop-field

pub offset_bounds-numbers-field : goal.offset_bounds-numbers-field
offset_bounds-numbers-field c = omega (arith, (place (goal.at.offset_bounds-numbers-field c).In-loop-field).place)

pub bounds-numbers-field : goal.bounds-numbers-field
bounds-numbers-field c = (place (goal.at.bounds-numbers-field c).In-loop-field).place

pub after_function_field-requires-clause-fact_2 : goal.after_function_field-requires-clause-fact_2
after_function_field-requires-clause-fact_2 c = place (goal.at.after_function_field-requires-clause-fact_2 c).In-loop-field

pub loop-field-smaller : goal.loop-field-smaller
loop-field-smaller c =
    nearer c.loop-field.invariant (c.in_functions.ensures c.loop-field-test.true) (sym c.read_field-number.ensures ∙ c.in-Ok.is) (sym c.if-not-in_range.ensures) (c.after_function_field.ensures _)

pub loop-field-preserved : goal.loop-field-preserved
loop-field-preserved c =
    one_further c.loop-field.invariant (c.in_functions.ensures c.loop-field-test.true) (sym c.read_field-number.ensures ∙ c.in-Ok.is) (sym c.if-not-in_range.ensures) (c.after_function_field.ensures _) c.function_start.ensures
