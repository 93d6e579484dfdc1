-- `after_item` meets its definition, after a list's last item and before.
use Rattle.fields.proofs.Laws.{past_list, next_item}
use Rattle.fields.proofs.after_item.Goals as goal

pub returns-then-c-eq0 : goal.returns-then-c-eq0
returns-then-c-eq0 c = past_list _ 0 _ c.look_up.ensures c.if-c-eq0.true

pub returns : goal.returns
returns c = next_item _ 0 _ c.look_up-2.ensures c.if-c-eq0.false
