-- `read_items` reads a run, item by item.
use mathlib.Core.Path.{refl, sym}
use native.Mathlib.Omega.{arith}
use Rattle.fields.proofs.Steps.{placed}
use Rattle.edge_runs.proofs.Items.{two_runs, all_read}
use Rattle.pair_runs.proofs.Pairs.{item_going}
use Rattle.pair_runs.proofs.read_items.Goals as goal

pub past_pairs-here-requires : goal.past_pairs-here-requires
past_pairs-here-requires c =
    let run = c.loop-items.invariant in
    (run.few, (placed run.valid (item_going (c.if-not-is_item.ensures refl))).place)

pub read_item-next-requires : goal.read_item-next-requires
read_item-next-requires c =
    let run = c.loop-items.invariant in
    rw c.past_pairs-here.ensures (record {
      table_value = c.requires.table_value;
      at_item = (
        record { readable = record { inside = run.inside; valid = run.valid; long = run.long }; more = omega (arith, c.loop-items-test.true) },
        c.if-not-is_item.ensures refl,
      );
    })

pub returns-then-next-eq0 : goal.returns-then-next-eq0
returns-then-next-eq0 c = rw (c.read_item-next.ensures.left c.if-next-eq0.true) c.loop-items.invariant

pub loop-items-preserved : goal.loop-items-preserved
loop-items-preserved c =
    two_runs c.loop-items.invariant (rw (sym c.past_pairs-here.ensures) (c.read_item-next.ensures.taken (omega (arith, c.if-next-eq0.false))))

pub returns : goal.returns
returns c = all_read c.loop-items.invariant c.loop-items-test.false
