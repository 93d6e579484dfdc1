-- `from_header` meets its definition, at a loop's last vertex and elsewhere.
use native.Mathlib.Omega.{arith}
use Rattle.fields.proofs.Laws.{last_place, after_header, any_header}
use Rattle.field_rules.proofs.from_header.Goals as goal

pub overflow_sub-header : goal.overflow_sub-header
overflow_sub-header c = omega (arith, last_place _ _ c.requires.above c.if-c-eq-LAST.true)

pub returns-then-c-eq-LAST : goal.returns-then-c-eq-LAST
returns-then-c-eq-LAST c = after_header _ _ _ c.if-c-eq-LAST.true

pub returns : goal.returns
returns c = any_header _ _ _ c.if-c-eq-LAST.false
