-- `read_fields` reads as `read_from` does.
use Prim.Native.Nat.{◌<◌}
use mathlib.Core.Path.{refl, sym}
use Rattle.std.proofs.lemmas.Result.{err_from_is_err_and}
use native.Mathlib.Omega.{arith}
use Rattle.model.specs.Rows as rows
use Rattle.fields.specs.Valid.{Placed}
use Rattle.fields.proofs.Steps.{placed, ranged_later}
use Rattle.edge_runs.proofs.Going.{past_row, past_nearer}
use Rattle.scan.proofs.Reading.{Reading, read_first, read_all, read_past, read_further, read_there, not_read, read_too_far, read_unordered, read_next}
use Rattle.scan.proofs.read_fields.Goals as goal
use Rattle.scan.proofs.read_fields.Goals.{After-past_pairs-field}

-- Behind the functions and the run of items, the reading goes on.
here : (c : After-past_pairs-field) → Reading c.args.bytes.now c.args.numbers.now c.read_run-run.new.numbers c.past_pairs-field.result c.read_run-run.result.at c.read_functions-far.result.start
here c =
    read_past (read_further c.loop-field.invariant c.loop-field-test.true c.read_functions-far.ensures) c.read_functions-far.ensures.going c.read_run-run.ensures
    c.past_pairs-field.ensures

going : (c : After-past_pairs-field) → c.past_pairs-field.result.row < rows.end
going c = past_row c.read_functions-far.result.field c.read_run-run.result.items c.past_pairs-field.ensures c.read_functions-far.ensures.going

place : (c : After-past_pairs-field) → Placed c.past_pairs-field.result
place c = placed (here c).reached.valid (going c)

pub loop-field-init : goal.loop-field-init
loop-field-init c = read_first _ c.requires c.first_field-field.ensures

pub read_functions-far-requires : goal.read_functions-far-requires
read_functions-far-requires c =
    let r = c.loop-field.invariant in
    record { table_value = c.table-table.ensures; readable_1 = record { inside = r.within; valid = r.reached.valid; long = r.long }; readable_2 = c.loop-field-test.true }

pub read_run-run-requires : goal.read_run-run-requires
read_run-run-requires c = record { table_value = c.table-table.ensures; readable = c.read_functions-far.ensures.readable }

pub past_pairs-field-requires : goal.past_pairs-field-requires
past_pairs-field-requires c = (c.read_run-run.ensures.few, (placed c.read_run-run.ensures.valid c.read_functions-far.ensures.going).place)

pub returns-in_err-value : goal.returns-in_err-value
returns-in_err-value c =
    let past = (goal.at.returns-in_err-value c).After-past_pairs-field in
    let p = err_from_is_err_and c.from_residual.result c.from_residual.ensures.1 in rw (p.1, p.2) (not_read (here past) (going past) _ c.in_err-value.ensures refl)

pub in_range-requires : goal.in_range-requires
in_range-requires c = record { table_value = c.table-table.ensures; placed = place (goal.at.in_range-requires c).After-past_pairs-field }

pub returns-then-not-in_range : goal.returns-then-not-in_range
returns-then-not-in_range c =
    let past = (goal.at.returns-then-not-in_range c).After-past_pairs-field in
    read_too_far (here past) (going past) (read_there (here past) (going past) _ c.in_ok-value.ensures) (sym c.if-not-in_range.ensures)

pub offset_bounds-numbers-place : goal.offset_bounds-numbers-place
offset_bounds-numbers-place c = omega (arith, (place (goal.at.offset_bounds-numbers-place c).After-past_pairs-field).place)

pub bounds-numbers-place : goal.bounds-numbers-place
bounds-numbers-place c = (place (goal.at.bounds-numbers-place c).After-past_pairs-field).place

pub item_start-start-requires : goal.item_start-start-requires
item_start-start-requires c = record { table_value = c.table-table.ensures; row_bound = going (goal.at.item_start-start-requires c).After-past_pairs-field }

pub ascends-requires : goal.ascends-requires
ascends-requires c = record { table_value = c.table-table.ensures; placed = place (goal.at.ascends-requires c).After-past_pairs-field }

pub returns-then-not-ascends : goal.returns-then-not-ascends
returns-then-not-ascends c =
    let past = (goal.at.returns-then-not-ascends c).After-past_pairs-field in
    read_unordered (here past) (going past) (read_there (here past) (going past) _ c.in_ok-value.ensures) (sym c.if-not-in_range.ensures) c.item_start-start.ensures (sym c.if-not-ascends.ensures)

pub next_field-field-requires : goal.next_field-field-requires
next_field-field-requires c = record { table_value = c.table-table.ensures; placed = place (goal.at.next_field-field-requires c).After-past_pairs-field }

pub loop-field-smaller : goal.loop-field-smaller
loop-field-smaller c =
    let past = (goal.at.loop-field-smaller c).After-past_pairs-field in
    let valid = (here past).reached.valid in
    let near = past_nearer c.read_functions-far.result.field c.read_run-run.result.items c.past_pairs-field.ensures valid (going past)
    (ranged_later valid (going past) _ _ (sym c.if-not-in_range.ensures) c.next_field-field.ensures) in
    omega (arith, c.read_functions-far.ensures.behind)

pub loop-field-preserved : goal.loop-field-preserved
loop-field-preserved c =
    let past = (goal.at.loop-field-preserved c).After-past_pairs-field in
    read_next (here past) (going past) (read_there (here past) (going past) _ c.in_ok-value.ensures) (sym c.if-not-in_range.ensures) c.item_start-start.ensures (sym c.if-not-ascends.ensures) c.next_field-field.ensures

pub returns : goal.returns
returns c = read_all c.loop-field.invariant c.loop-field-test.false
