use native.Mathlib.Omega.{arith}
use Rattle.lookup.proofs.Places.{facts, vertex_small, function_small}
use Rattle.reach.proofs.FirstReachFlow.leaving.Goals as goal

pub offset_bounds-fresh-u : goal.offset_bounds-fresh-u
offset_bounds-fresh-u c = omega (arith, vertex_small _ (facts _ c.requires.checked) _ c.requires.there)

pub bounds-fresh-u : goal.bounds-fresh-u
bounds-fresh-u c = omega (arith, c.requires.long, vertex_small _ (facts _ c.requires.checked) _ c.requires.there)

pub function_of-requires : goal.function_of-requires
function_of-requires c = record { fact_1 = facts _ c.requires.checked; fact_2 = c.requires.there }

pub without-requires : goal.without-requires
without-requires c = function_small _ (facts _ c.requires.checked) _ c.requires.there _ c.function_of.ensures
