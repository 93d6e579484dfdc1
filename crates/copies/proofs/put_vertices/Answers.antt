-- `put_vertices` stores row after row.
use Rattle.copies.proofs.Vertices.{none_copied, known, one_copied, all_copied}
use Rattle.copies.proofs.put_vertices.Goals as goal

pub loop-i-init : goal.loop-i-init
loop-i-init c = none_copied _ _ _

pub own_cost-requires : goal.own_cost-requires
own_cost-requires c = known _ _ c.requires _ c.loop-i-test.true

pub loop-i-preserved : goal.loop-i-preserved
loop-i-preserved c = one_copied _ _ c.requires _ c.loop-i-test.true _ _ _ _ c.loop-i.invariant c.own_cost.ensures c.put.ensures

pub returns : goal.returns
returns c = all_copied _ _ c.args.numbers.now _ _ c.loop-i-test.false c.loop-i.invariant
