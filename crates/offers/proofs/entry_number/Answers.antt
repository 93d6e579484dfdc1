-- `offers::entry_number` is what is paid for entering at vertex 0, and else the greatest of what the edges from outside bring with that.
use Rattle.chains.proofs.Checks.{facts}
use Rattle.offers.proofs.ThreeNumbers.{entry_first, entry_later}
use Rattle.offers.proofs.entry_number.Goals as goal

pub loop_header-header-requires-clause-fact_1 : goal.loop_header-header-requires-clause-fact_1
loop_header-header-requires-clause-fact_1 c = facts c.requires.fact_2.checked

pub returns-then-header-eq0 : goal.returns-then-header-eq0
returns-then-header-eq0 c = entry_first _ _ _ _ _ c.loop_header-header.ensures c.if-header-eq0.true

pub loop_last-requires-clause-fact_1 : goal.loop_last-requires-clause-fact_1
loop_last-requires-clause-fact_1 c = facts c.requires.fact_2.checked

pub best_into-requires-clause-fact_3 : goal.best_into-requires-clause-fact_3
best_into-requires-clause-fact_3 c = c.requires.fact_3.most _

pub returns : goal.returns
returns c =
    entry_later _ _ _ _ _ c.loop_header-header.ensures c.loop_last.ensures c.if-header-eq0.false c.best_into.ensures
