-- `zero_unwritten` meets its definition, where the number is written and where it is not.
use mathlib.Core.Path.{sym, ◌∙◌}
use Rattle.fields.proofs.Laws.{must_be_zero, may_be_any}
use Rattle.field_rules.proofs.zero_unwritten.Goals as goal

pub returns-then-unwritten : goal.returns-then-unwritten
returns-then-unwritten c = must_be_zero _ _ _ (sym c.unwritten.ensures ∙ c.if-unwritten.true)

pub returns : goal.returns
returns c = may_be_any _ _ _ (sym c.unwritten.ensures ∙ c.if-unwritten.false)
