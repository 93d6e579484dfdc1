-- `ends_between` looks into the low word, and behind it into the high one.
use mathlib.Core.Path.{◌∙◌, sym}
use native.Mathlib.Omega.{arith}
use Rattle.ends.proofs.Members.{in_low, found_low, then_high}
use Rattle.ends.proofs.ends_between.Goals as goal

pub returns-then-to-le-HALF : goal.returns-then-to-le-HALF
returns-then-to-le-HALF c = c.has_between.ensures ∙ in_low _ _ _ c.if-to-le-HALF.true

pub returns-then-has_between : goal.returns-then-has_between
returns-then-has_between c = found_low _ _ _ (omega arith) (sym c.has_between-2.ensures ∙ c.if-has_between.true)

pub returns : goal.returns
returns c = c.has_between-3.ensures ∙ then_high _ _ _ (omega arith) (sym c.has_between-2.ensures ∙ c.if-has_between.false) c.in_high.ensures
