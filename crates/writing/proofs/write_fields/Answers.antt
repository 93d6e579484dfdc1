use native.Mathlib.Omega.{arith}
use Rattle.fields.proofs.Steps.{placed}
use Rattle.edge_runs.proofs.Going.{nearer}
use Rattle.writing.proofs.Writing.{write_first, write_all, write_room, write_later, write_next}
use Rattle.writing.proofs.write_fields.Goals as goal

both : {A B : Type 0} → A × B → record { fact_1 : A; fact_2 : B }
both p = record { fact_1 = p.0; fact_2 = p.1 }

pub loop-field-init : goal.loop-field-init
loop-field-init c = write_first _ _ c.first_field-field.ensures

pub offset_bounds-numbers-place : goal.offset_bounds-numbers-place
offset_bounds-numbers-place c = omega (arith, (placed c.loop-field.invariant.reached.valid c.loop-field-test.true).place)

pub bounds-numbers-place : goal.bounds-numbers-place
bounds-numbers-place c = (placed c.loop-field.invariant.reached.valid c.loop-field-test.true).place

pub write_field-at-requires : goal.write_field-at-requires
write_field-at-requires c =
    write_room c.loop-field.invariant c.requires c.loop-field-test.true

pub next_field-field-requires : goal.next_field-field-requires
next_field-field-requires c =
    record { table_value = c.table-table.ensures; placed = placed c.loop-field.invariant.reached.valid c.loop-field-test.true }

pub loop-field-smaller : goal.loop-field-smaller
loop-field-smaller c =
    let writing = c.loop-field.invariant in
    nearer writing.reached.valid c.loop-field-test.true (write_later writing c.requires c.loop-field-test.true c.next_field-field.ensures)

pub loop-field-preserved : goal.loop-field-preserved
loop-field-preserved c =
    write_next c.loop-field.invariant c.requires c.loop-field-test.true c.next_field-field.ensures c.write_field-at.ensures.fact_1 c.write_field-at.ensures.fact_2

pub returns : goal.returns
returns c = both (write_all c.loop-field.invariant c.loop-field-test.false)
