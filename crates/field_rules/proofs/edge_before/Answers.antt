-- `edge_before` meets its definition, in its three cases.
use Rattle.fields.proofs.Laws.{higher, level, lower}
use Rattle.field_rules.proofs.edge_before.Goals as goal

pub returns-then-from-from2 : goal.returns-then-from-from2
returns-then-from-from2 c = higher _ _ _ _ c.if-from-from2.true

pub returns-then-from-from2-2 : goal.returns-then-from-from2-2
returns-then-from-from2-2 c = level _ _ _ _ c.if-from-from2.false c.if-from-from2-2.true

pub returns : goal.returns
returns c = lower _ _ _ _ c.if-from-from2.false c.if-from-from2-2.false
