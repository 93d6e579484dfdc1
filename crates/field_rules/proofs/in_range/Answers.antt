-- `in_range` meets its definition: below the row, above it, past the count that narrows it, below its header, or as `zero_unwritten` says.
use mathlib.Core.Path.{sym, ◌∙◌}
use native.Mathlib.Omega.{arith}
use borrow.Author.Tests.{not-true, not-false}
use Rattle.model.specs.File.{below_count}
use Rattle.fields.proofs.Laws.{too_low, too_high, past_count, past_header, within}
use Rattle.field_rules.proofs.in_range.Goals as goal

pub returns-then-v-look_up : goal.returns-then-v-look_up
returns-then-v-look_up c = too_low _ _ _ (omega (arith, c.look_up.ensures))

pub returns-then-look_up-v : goal.returns-then-look_up-v
returns-then-look_up-v c = too_high _ _ _ (omega (arith, c.look_up.ensures)) (omega (arith, c.look_up-2.ensures))

pub returns-then-not-below_count : goal.returns-then-not-below_count
returns-then-not-below_count c =
    past_count _ _ _ (omega (arith, c.look_up.ensures)) (omega (arith, c.look_up-2.ensures)) (sym c.below_count.ensures ∙ not-true _ c.if-not-below_count.true-raw)

pub returns-then-not-from_header : goal.returns-then-not-from_header
returns-then-not-from_header c =
    past_header _ _ _ (omega (arith, c.look_up.ensures)) (omega (arith, c.look_up-2.ensures)) (sym c.below_count.ensures ∙ not-false _ c.if-not-below_count.false-raw) (sym c.from_header.ensures ∙ not-true _ c.if-not-from_header.true-raw)

pub returns : goal.returns
returns c =
    c.zero_unwritten.ensures
    ∙ within _ _ _ (omega (arith, c.look_up.ensures)) (omega (arith, c.look_up-2.ensures)) (sym c.below_count.ensures ∙ not-false _ c.if-not-below_count.false-raw) (sym c.from_header.ensures ∙ not-false _ c.if-not-from_header.false-raw)
