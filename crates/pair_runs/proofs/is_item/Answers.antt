-- `is_item` finds that a row is one of the two.
use mathlib.Core.Path.{◌≡◌}
use borrow.Author.Tests.{eqb-true}
use Rattle.pair_runs.specs.Pairs.{vertices, pair, edge}
use Rattle.model.specs.Rows as rows
use Rattle.pair_runs.proofs.is_item.Goals as goal

pub returns-then-row-eq-FUNCTION : goal.returns-then-row-eq-FUNCTION
returns-then-row-eq-FUNCTION c = λ e. rw c.if-row-eq-FUNCTION.true (pair vertices)

pub returns-else-row-eq-FUNCTION : goal.returns-else-row-eq-FUNCTION
returns-else-row-eq-FUNCTION c = λ e. let same : c.args.row ≡ rows.from = eqb-true c.args.row rows.from e in rw same edge
