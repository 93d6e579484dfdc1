-- `next_field` meets its definition, by the row's kind.
use Rattle.fields.proofs.Laws.{next_counted, next_ended, next_within}
use Rattle.fields.proofs.next_field.Goals as goal

pub returns-then-kind-eq-COUNT : goal.returns-then-kind-eq-COUNT
returns-then-kind-eq-COUNT c = next_counted _ _ _ c.look_up-kind.ensures _ c.after_count.ensures c.if-kind-eq-COUNT.true

pub returns-then-kind-eq-LAST : goal.returns-then-kind-eq-LAST
returns-then-kind-eq-LAST c = next_ended _ _ _ c.look_up-kind.ensures c.if-kind-eq-COUNT.false _ c.after_item.ensures c.if-kind-eq-LAST.true

pub returns : goal.returns
returns c =
    next_within _ _ _ c.look_up-kind.ensures c.if-kind-eq-COUNT.false c.if-kind-eq-LAST.false
