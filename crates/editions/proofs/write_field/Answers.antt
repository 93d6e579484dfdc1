-- `write_field` stores the bytes of the field, of which there may be none.
use mathlib.Core.Path.{◌≡◌, refl, sym, ◌∙◌}
use native.Mathlib.Omega.{arith}
use mathlib.Core.Bool.{true, false}
use Rattle.model.specs.File.{unwritten}
use Rattle.fields.proofs.Editions.{size_written, size_unwritten, bytes_written, bytes_unwritten}
use Rattle.editions.proofs.write_field.Goals as goal

pub returns-then-unwritten : goal.returns-then-unwritten
returns-then-unwritten c =
    let none : unwritten _ _ ≡ true = sym c.unwritten.ensures ∙ c.if-unwritten.true in
    rw (size_unwritten _ _ none, bytes_unwritten _ _ none) (record { fact_1 = omega arith; fact_2 = refl })

pub write_number-requires : goal.write_number-requires
write_number-requires c =
    rw (size_written _ _ (sym c.unwritten.ensures ∙ c.if-unwritten.false)) at c.requires

pub returns : goal.returns
returns c = rw (size_written _ _ (sym c.unwritten.ensures ∙ c.if-unwritten.false), bytes_written _ _ (sym c.unwritten.ensures ∙ c.if-unwritten.false)) c.write_number.ensures
