use mathlib.Core.Path.{sym, ◌∙◌}
use Rattle.pieces.proofs.Reading.{none_left, none_opens, first_read, stops_at_end, stops_here, goes_on}
use borrow.Author.Rules.{rules}
use Rattle.pieces.proofs.read_decimal.Goals as goal

pub returns-then-text-at : goal.returns-then-text-at
returns-then-text-at c = none_left _ _ _ _ c.if-text-at.true

pub returns-then-not-opens : goal.returns-then-not-opens
returns-then-not-opens c = none_opens _ _ _ _ c.if-text-at.false (sym c.opens.ensures ∙ c.if-not-opens.true)

pub loop-pos-init : goal.loop-pos-init
loop-pos-init c = first_read _ _ _ _ (search rules) (sym c.opens.ensures ∙ c.if-not-opens.false)

pub returns-then-not-fits : goal.returns-then-not-fits
returns-then-not-fits c = stops_here _ _ _ _ _ _ c.loop-pos.invariant c.loop-pos-test.true (sym c.fits.ensures ∙ c.if-not-fits.true)

pub loop-pos-preserved : goal.loop-pos-preserved
loop-pos-preserved c = goes_on _ _ _ _ _ _ (search rules) (search rules) (sym c.fits.ensures ∙ c.if-not-fits.false)

pub returns : goal.returns
returns c = stops_at_end _ _ _ _ _ _ c.loop-pos.invariant c.loop-pos-test.false
