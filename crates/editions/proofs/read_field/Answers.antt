-- `read_field` meets its definition, where a byte is written and where none is.
use mathlib.Core.Path.{sym, ◌∙◌}
use Rattle.fields.proofs.Editions.{read_written, read_unwritten}
use Rattle.editions.proofs.read_field.Goals as goal

pub returns-then-unwritten : goal.returns-then-unwritten
returns-then-unwritten c = sym (read_unwritten _ _ (sym c.unwritten.ensures ∙ c.if-unwritten.true) _ _)

pub returns : goal.returns
returns c = c.read_number.ensures ∙ sym (read_written _ _ (sym c.unwritten.ensures ∙ c.if-unwritten.false) _ _)
