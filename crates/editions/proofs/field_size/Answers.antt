-- `field_size` meets its definition, where a byte is written and where none is.
use mathlib.Core.Path.{sym, ◌∙◌}
use Rattle.fields.proofs.Editions.{size_written, size_unwritten}
use Rattle.editions.proofs.field_size.Goals as goal

pub returns-then-unwritten : goal.returns-then-unwritten
returns-then-unwritten c = sym (size_unwritten _ _ (sym c.unwritten.ensures ∙ c.if-unwritten.true) _)

pub returns : goal.returns
returns c = c.number_size.ensures ∙ sym (size_written _ _ (sym c.unwritten.ensures ∙ c.if-unwritten.false) _)
