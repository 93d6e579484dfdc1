-- `edition_of` meets its contract, with a check cost and without one.
use mathlib.Core.Path.{sym, ap, ◌∙◌}
use mathlib.Core.Bool.{Bool, cond}
use Rattle.model.specs.Limits.{first_edition, second_edition}
use Rattle.model.specs.Numbers.{edition_of}
use Rattle.numbers.proofs.edition_of.Goals as goal

pub returns-then-some_check : goal.returns-then-some_check
unfolding edition_of
returns-then-some_check c = ap (λ (t : Bool). cond t second_edition first_edition) (sym c.if-some_check.true ∙ c.some_check.ensures)

pub returns : goal.returns
unfolding edition_of
returns c = ap (λ (t : Bool). cond t second_edition first_edition) (sym c.if-some_check.false ∙ c.some_check.ensures)
