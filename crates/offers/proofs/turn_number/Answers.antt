-- `offers::turn_number` is the greatest of what the edges from inside bring.
use Rattle.chains.proofs.Checks.{facts}
use Rattle.offers.proofs.ThreeNumbers.{turn_is}
use Rattle.offers.proofs.turn_number.Goals as goal

pub loop_header-header-requires-clause-fact_1 : goal.loop_header-header-requires-clause-fact_1
loop_header-header-requires-clause-fact_1 c = facts c.requires.fact_2.checked

pub loop_last-requires-clause-fact_1 : goal.loop_last-requires-clause-fact_1
loop_last-requires-clause-fact_1 c = facts c.requires.fact_2.checked

pub returns : goal.returns
returns c = turn_is _ _ _ _ c.loop_header-header.ensures c.loop_last.ensures c.best_into.ensures
