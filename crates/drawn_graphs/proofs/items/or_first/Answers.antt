-- `or_first` meets its contract, with a callee and without.
use mathlib.Core.Path.{sym, ◌∙◌}
use Rattle.drawings.proofs.Callees.{callee_kept, callee_first}
use Rattle.drawn_graphs.proofs.items.or_first.Goals as goal

pub returns-then-calls_some : goal.returns-then-calls_some
returns-then-calls_some c = callee_kept _ (sym c.calls_some.ensures ∙ c.if-calls_some.true)

pub returns-else-calls_some : goal.returns-else-calls_some
returns-else-calls_some c = callee_first c.args.callee (sym c.calls_some.ensures ∙ c.if-calls_some.false)
