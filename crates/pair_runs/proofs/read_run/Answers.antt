-- `read_run` reads a run of and another it, or one run of other items.
use mathlib.Core.Path.{sym}
use native.Mathlib.Omega.{arith}
use Rattle.fields.proofs.Steps.{placed}
use Rattle.edge_runs.proofs.Items.{two_runs}
use Rattle.pair_runs.proofs.read_run.Goals as goal

pub past_pairs-behind-requires : goal.past_pairs-behind-requires
past_pairs-behind-requires c =
    let run = c.read_edges-edges.ensures in
    (run.few, (placed run.valid (omega (arith, c.if-field-eq-FROM.true))).place)

pub read_items-rest-requires : goal.read_items-rest-requires
read_items-rest-requires c =
    let run = c.read_edges-edges.ensures in
    rw c.past_pairs-behind.ensures record { table_value = c.requires.table_value; readable = record { inside = run.inside; valid = run.valid; long = run.long } }

pub returns-then-field-eq-FROM : goal.returns-then-field-eq-FROM
returns-then-field-eq-FROM c =
    two_runs c.read_edges-edges.ensures (rw (sym c.past_pairs-behind.ensures) c.read_items-rest.ensures)
