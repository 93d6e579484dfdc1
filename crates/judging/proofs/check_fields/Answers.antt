-- `check_fields` judges as `check_from` does.
use mathlib.Core.Path.{sym}
use native.Mathlib.Omega.{arith}
use Rattle.model.specs.Places as places
use Rattle.model.specs.Rows as rows
use Prim.Native.Nat.{◌+◌, ◌*◌, ◌<◌}
use Rattle.fields.specs.Valid.{Placed}
use Rattle.fields.proofs.Steps.{placed, ranged_later}
use Rattle.edge_runs.proofs.Going.{past_row, past_nearer}
use Rattle.judging.proofs.Judging.{Judging, judge_first, judge_all, judge_near, judge_room_lem, judge_past, judge_too_far, judge_unordered, judge_next}
use Rattle.judging.proofs.check_fields.Goals as goal
use Rattle.judging.proofs.check_fields.Goals.{After-past_pairs-field}

-- Behind the run of edges, the judging goes on.
here : (c : After-past_pairs-field) → Judging c.args.numbers.now c.past_pairs-field.result (c.loop-field.at + places.edge_width * c.check_edges-run.result) c.loop-field.start
here c = judge_past c.loop-field.invariant c.loop-field-test.true c.check_edges-run.ensures c.past_pairs-field.ensures

going : (c : After-past_pairs-field) → c.past_pairs-field.result.row < rows.end
going c = past_row c.loop-field.field c.check_edges-run.result c.past_pairs-field.ensures c.loop-field-test.true

place : (c : After-past_pairs-field) → Placed c.past_pairs-field.result
place c = placed (here c).reached.valid (going c)

pub loop-field-init : goal.loop-field-init
loop-field-init c = judge_first _ c.first_field-field.ensures

pub check_edges-run-requires : goal.check_edges-run-requires
check_edges-run-requires c = c.loop-field.invariant.reached.valid

pub past_pairs-field-requires : goal.past_pairs-field-requires
past_pairs-field-requires c = (c.check_edges-run.ensures.few, (placed c.check_edges-run.ensures.valid c.loop-field-test.true).place)

pub overflow_mul-at : goal.overflow_mul-at
overflow_mul-at c =
    let past = (goal.at.overflow_mul-at c).After-past_pairs-field in
    omega (arith, judge_near (here past) (going past))

pub overflow_add-at : goal.overflow_add-at
overflow_add-at c =
    let past = (goal.at.overflow_add-at c).After-past_pairs-field in
    omega (arith, judge_near (here past) (going past))

pub offset_bounds-numbers-place : goal.offset_bounds-numbers-place
offset_bounds-numbers-place c =
    let past = (goal.at.offset_bounds-numbers-place c).After-past_pairs-field in
    omega (arith, (place past).place)

pub bounds-numbers-place : goal.bounds-numbers-place
bounds-numbers-place c =
    let past = (goal.at.bounds-numbers-place c).After-past_pairs-field in
    (place past).place

pub in_range-requires : goal.in_range-requires
in_range-requires c = record { table_value = c.table-table.ensures; placed = place (goal.at.in_range-requires c).After-past_pairs-field }

pub returns-then-not-in_range : goal.returns-then-not-in_range
returns-then-not-in_range c =
    let past = (goal.at.returns-then-not-in_range c).After-past_pairs-field in
    judge_too_far (here past) (going past) (sym c.if-not-in_range.ensures)

pub item_start-start-requires : goal.item_start-start-requires
item_start-start-requires c = record { table_value = c.table-table.ensures; row_bound = going (goal.at.item_start-start-requires c).After-past_pairs-field }

pub ascends-requires : goal.ascends-requires
ascends-requires c = record { table_value = c.table-table.ensures; placed = place (goal.at.ascends-requires c).After-past_pairs-field }

pub returns-then-not-ascends : goal.returns-then-not-ascends
returns-then-not-ascends c =
    let past = (goal.at.returns-then-not-ascends c).After-past_pairs-field in
    judge_unordered (here past) (going past) (sym c.if-not-in_range.ensures) c.item_start-start.ensures (sym c.if-not-ascends.ensures)

pub overflow_add-at-in-loop-field : goal.overflow_add-at-in-loop-field
overflow_add-at-in-loop-field c =
    let past = (goal.at.overflow_add-at-in-loop-field c).After-past_pairs-field in
    omega (arith, judge_room_lem (here past) (going past) c.field_size-at.ensures)

pub next_field-field-requires : goal.next_field-field-requires
next_field-field-requires c = record { table_value = c.table-table.ensures; placed = place (goal.at.next_field-field-requires c).After-past_pairs-field }

pub loop-field-smaller : goal.loop-field-smaller
loop-field-smaller c =
    let past = (goal.at.loop-field-smaller c).After-past_pairs-field in
    let valid = (here past).reached.valid in past_nearer c.loop-field.field (c.check_edges-run.result) c.past_pairs-field.ensures valid (going past) (ranged_later valid (going past) _ _ (sym c.if-not-in_range.ensures) c.next_field-field.ensures)

pub loop-field-preserved : goal.loop-field-preserved
loop-field-preserved c =
    let past = (goal.at.loop-field-preserved c).After-past_pairs-field in
    judge_next (here past) (going past) (sym c.if-not-in_range.ensures) c.item_start-start.ensures (sym c.if-not-ascends.ensures) c.next_field-field.ensures c.field_size-at.ensures

pub returns : goal.returns
returns c = judge_all c.loop-field.invariant c.loop-field-test.false
