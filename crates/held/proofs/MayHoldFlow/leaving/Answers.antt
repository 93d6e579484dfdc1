use native.Mathlib.Omega.{arith}
use Rattle.lookup.proofs.Places.{facts, vertex_small, function_small}
use Rattle.held.proofs.MayHoldFlow.leaving.Goals as goal

pub function_of-g-requires : goal.function_of-g-requires
function_of-g-requires c = record { fact_1 = facts _ c.requires.checked; fact_2 = c.requires.there }

pub offset_bounds-held-u : goal.offset_bounds-held-u
offset_bounds-held-u c = omega (arith, vertex_small _ (facts _ c.requires.checked) _ c.requires.there)

pub bounds-held-u : goal.bounds-held-u
bounds-held-u c = omega (arith, c.requires.long, vertex_small _ (facts _ c.requires.checked) _ c.requires.there)

pub offset_bounds-self-g : goal.offset_bounds-self-g
offset_bounds-self-g c = omega (arith, function_small _ (facts _ c.requires.checked) _ c.requires.there _ c.function_of-g.ensures)

pub bounds-self-g : goal.bounds-self-g
bounds-self-g c = omega (arith, function_small _ (facts _ c.requires.checked) _ c.requires.there _ c.function_of-g.ensures)

pub renewed-requires : goal.renewed-requires
renewed-requires c = function_small _ (facts _ c.requires.checked) _ c.requires.there _ c.function_of-g.ensures
