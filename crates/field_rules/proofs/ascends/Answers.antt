-- `ascends` meets its definition: within an item there is no order to break.
use Rattle.fields.proofs.Laws.{within_item}
use Rattle.field_rules.proofs.ascends.Goals as goal

pub returns-then-look_up-ne-LAST : goal.returns-then-look_up-ne-LAST
returns-then-look_up-ne-LAST c = within_item _ _ _ c.look_up.ensures c.if-look_up-ne-LAST.true
