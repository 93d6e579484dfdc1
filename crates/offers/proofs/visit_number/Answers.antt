-- `offers::visit_number` is the charge at vertex 0, and else the greatest of what the edges bring.
use Rattle.offers.proofs.ThreeNumbers.{visit_first, visit_later}
use Rattle.offers.proofs.visit_number.Goals as goal

pub returns-then-v-eq0 : goal.returns-then-v-eq0
returns-then-v-eq0 c = visit_first _ _ _ _ _ c.if-v-eq0.true

pub best_into-requires-clause-fact_3 : goal.best_into-requires-clause-fact_3
best_into-requires-clause-fact_3 c = c.requires.fact_3.most _

pub returns : goal.returns
returns c = visit_later _ _ _ _ _ c.if-v-eq0.false c.best_into.ensures
