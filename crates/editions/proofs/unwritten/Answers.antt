-- `unwritten` meets its definition, at a check cost and elsewhere.
use Rattle.fields.proofs.Editions.{other_row, check_row}
use Rattle.editions.proofs.unwritten.Goals as goal

pub returns-then-c-ne-CHECK : goal.returns-then-c-ne-CHECK
returns-then-c-ne-CHECK c = other_row _ _ c.if-c-ne-CHECK.true

pub returns : goal.returns
returns c = check_row _ _ c.if-c-ne-CHECK.false
