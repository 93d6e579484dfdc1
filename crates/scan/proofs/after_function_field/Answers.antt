-- `after_function_field` meets its definition, at a function's check cost and elsewhere.
use Rattle.scan.proofs.Functions.{last_next, other_next}
use Rattle.scan.proofs.after_function_field.Goals as goal

pub returns-then-c-eq-CHECK : goal.returns-then-c-eq-CHECK
returns-then-c-eq-CHECK c = last_next c.requires.fact_1 c.if-c-eq-CHECK.true

pub returns : goal.returns
returns c = other_next c.requires.fact_1 c.if-c-eq-CHECK.false
