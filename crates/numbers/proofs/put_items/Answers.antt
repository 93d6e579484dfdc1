use Rattle.std.proofs.Common.{rules}
use Rattle.numbers.proofs.Places.{stored_none, stored_more}
use Rattle.numbers.proofs.put_items.Goals as goal

pub loop-i-init : goal.loop-i-init
loop-i-init g c = stored_none g.I.Item.numbers g.row.N _ _ _ (search rules)

pub loop-i-preserved : goal.loop-i-preserved
loop-i-preserved g c =
    stored_more g.I.Item.numbers g.I.Item.WIDTH g.met.I.Item.wide g.row.N _ _ _ _ c.index-items-i.result _ _
    c.loop-i-test.true
    c.loop-i.invariant
    (rw c.WIDTH.ensures at c.put.ensures)
