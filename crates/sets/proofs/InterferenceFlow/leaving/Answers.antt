use native.Mathlib.Omega.{arith}
use Rattle.lookup.proofs.Places.{facts, vertex_small, function_small}
use Rattle.sets.proofs.InterferenceFlow.leaving.Goals as goal

pub function_of-requires : goal.function_of-requires
function_of-requires c = record { fact_1 = facts _ c.requires.checked; fact_2 = c.requires.there }

pub overflow_cast-function_of : goal.overflow_cast-function_of
overflow_cast-function_of c = omega (arith, function_small _ (facts _ c.requires.checked) _ c.requires.there _ c.function_of.ensures)

pub row_leaving-requires-clause-fact_1 : goal.row_leaving-requires-clause-fact_1
row_leaving-requires-clause-fact_1 c = (
  vertex_small _ (facts _ c.requires.checked) _ c.requires.there,
  function_small _ (facts _ c.requires.checked) _ c.requires.there _ c.function_of.ensures,
)
