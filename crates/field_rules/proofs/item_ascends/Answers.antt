-- `item_ascends` meets its definition: the first item, an edge, a loop, or an item without an order.
use native.Mathlib.Omega.{arith}
use Rattle.fields.proofs.Laws.{first_item, edge_ascends, loop_ascends, no_order, edge_place, loop_place}
use Rattle.field_rules.proofs.item_ascends.Goals as goal

pub returns-then-k-look_up : goal.returns-then-k-look_up
returns-then-k-look_up c = first_item _ _ _ c.look_up.ensures c.if-k-look_up.true

pub overflow_sub-k : goal.overflow_sub-k
overflow_sub-k c = omega (arith, (edge_place _ _ c.requires.placed.above c.if-c-eq-TO.true))

pub overflow_sub-k-then-c-eq-TO : goal.overflow_sub-k-then-c-eq-TO
overflow_sub-k-then-c-eq-TO c = omega (arith, (edge_place _ _ c.requires.placed.above c.if-c-eq-TO.true))

pub returns-then-c-eq-TO : goal.returns-then-c-eq-TO
returns-then-c-eq-TO c =
    edge_ascends _ _ _ c.look_up.ensures c.if-k-look_up.false c.if-c-eq-TO.true _ c.edge_before.ensures

pub overflow_sub-result : goal.overflow_sub-result
overflow_sub-result c = omega (arith, (loop_place _ _ c.requires.placed.above c.if-c-eq-BOUND.true))

pub overflow_sub-result-then-c-eq-BOUND : goal.overflow_sub-result-then-c-eq-BOUND
overflow_sub-result-then-c-eq-BOUND c = omega (arith, (loop_place _ _ c.requires.placed.above c.if-c-eq-BOUND.true))

pub returns-then-c-eq-BOUND : goal.returns-then-c-eq-BOUND
returns-then-c-eq-BOUND c =
    loop_ascends _ _ _ c.look_up.ensures c.if-k-look_up.false c.if-c-eq-TO.false c.if-c-eq-BOUND.true

pub returns : goal.returns
returns c =
    no_order _ _ _ c.look_up.ensures c.if-k-look_up.false c.if-c-eq-TO.false c.if-c-eq-BOUND.false
