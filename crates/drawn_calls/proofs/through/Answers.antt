-- `through` meets its contract, where the word has k and where it has not.
use mathlib.Core.Path.{sym}
use Rattle.drawn_calls.proofs.InPlace.{goes_through, stays_out}
use Rattle.drawn_calls.proofs.through.Goals as goal

pub returns-then-has_bit : goal.returns-then-has_bit
returns-then-has_bit c = goes_through _ _ _ (sym c.if-has_bit.ensures)

pub returns-else-has_bit : goal.returns-else-has_bit
returns-else-has_bit c = stays_out _ _ _ (sym c.if-has_bit.ensures)
