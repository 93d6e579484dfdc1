-- `enter` stores the number and the state where the state leads on as asked and has no number.
use mathlib.Core.Path.{sym, ◌∙◌}
use native.Mathlib.Omega.{arith}
use borrow.Author.Tests.{not-true, not-false}
use Rattle.model.proofs.Cases.{true_not_false}
use Rattle.distances.specs.Searching.{kept, new}
use Rattle.distances.proofs.enter.Goals as goal

pub returns-then-not-leads : goal.returns-then-not-leads
returns-then-not-leads c = kept (λ leads. true_not_false (sym leads ∙ not-true _ c.if-not-leads.true-raw))

pub returns-then-steps-state-lt-NO_WAY : goal.returns-then-steps-state-lt-NO_WAY
returns-then-steps-state-lt-NO_WAY c = kept (λ leads. c.if-steps-state-lt-NO_WAY.true)

pub offset_bounds-queue-end : goal.offset_bounds-queue-end
offset_bounds-queue-end c = omega (arith, (c.requires.fact_2 c.if-steps-state-lt-NO_WAY.false))

pub bounds-queue-end : goal.bounds-queue-end
bounds-queue-end c = (c.requires.fact_2 c.if-steps-state-lt-NO_WAY.false)

pub overflow_add-result : goal.overflow_add-result
overflow_add-result c = omega (arith, (c.requires.fact_2 c.if-steps-state-lt-NO_WAY.false))

pub returns : goal.returns
returns c = new (not-false _ c.if-not-leads.false-raw) c.if-steps-state-lt-NO_WAY.false
