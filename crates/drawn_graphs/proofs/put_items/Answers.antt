use Rattle.numbers.proofs.Tables.{table_none, table_more}
use Rattle.drawn_graphs.proofs.put_items.Goals as goal

pub loop-i-init : goal.loop-i-init
loop-i-init g c = table_none g.I.Item.numbers g.I.Item.WIDTH g.met.I.Item.wide _ _ _ _

pub loop-i-preserved : goal.loop-i-preserved
loop-i-preserved g c =
    table_more g.I.Item.numbers g.I.Item.WIDTH g.met.I.Item.wide _ _ _ _ _ _ _ _
    (rw (c.min-i-end.ensures, c.MOST.ensures) at c.loop-i-test.true)
    c.loop-i.invariant
    c.of_graph.ensures
    (rw c.WIDTH.ensures at c.put.ensures)
