-- `below_count` meets its definition, with and without a count over the row.
use native.Mathlib.Omega.{arith}
use Rattle.fields.proofs.Laws.{count_fits, no_count, under_count}
use Rattle.field_rules.proofs.below_count.Goals as goal

pub returns-then-over-eq0 : goal.returns-then-over-eq0
returns-then-over-eq0 c = no_count _ _ _ _ c.look_up-over.ensures c.if-over-eq0.true

pub offset_bounds-l-over : goal.offset_bounds-l-over
offset_bounds-l-over c = omega (arith, count_fits _ _ c.requires.row_bound c.look_up-over.ensures)

pub bounds-l-over : goal.bounds-l-over
bounds-l-over c = omega (arith, count_fits _ _ c.requires.row_bound c.look_up-over.ensures)

pub returns : goal.returns
returns c = under_count _ _ _ _ c.look_up-over.ensures c.if-over-eq0.false
