-- `item_start` meets its definition, at an item's first number and elsewhere.
use Rattle.fields.proofs.Laws.{starts, goes_on}
use Rattle.fields.proofs.item_start.Goals as goal

pub returns-then-look_up-eq-FIRST : goal.returns-then-look_up-eq-FIRST
returns-then-look_up-eq-FIRST c = starts _ 0 _ c.look_up.ensures _ _ c.if-look_up-eq-FIRST.true

pub returns : goal.returns
returns c = goes_on _ 0 _ c.look_up.ensures _ _ c.if-look_up-eq-FIRST.false
