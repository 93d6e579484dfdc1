-- `entered::is_crossing` compares the functions of an edge's two ends.
use Rattle.lookup.proofs.Places.{facts}
use Rattle.entered.proofs.is_crossing.Goals as goal

pub edge_from-from-requires-clause-fact_1 : goal.edge_from-from-requires-clause-fact_1
edge_from-from-requires-clause-fact_1 c = facts _ c.requires.fact_1

pub function_of-before-requires-clause-fact_1 : goal.function_of-before-requires-clause-fact_1
function_of-before-requires-clause-fact_1 c = facts _ c.requires.fact_1

pub function_of-after-requires-clause-fact_1 : goal.function_of-after-requires-clause-fact_1
function_of-after-requires-clause-fact_1 c = facts _ c.requires.fact_1
