-- `lookup::edge_to` reads the place that the edge's to stands at.
use mathlib.Core.Path.{sym}
use native.Mathlib.Omega.{arith}
use Rattle.lookup.proofs.Places.{edge_small, to_at}
use Rattle.lookup.proofs.edge_to.Goals as goal

pub overflow_mul-result : goal.overflow_mul-result
overflow_mul-result c = omega (arith, edge_small _ c.requires.fact_1 _ c.requires.fact_2)

pub overflow_add-result : goal.overflow_add-result
overflow_add-result c = omega (arith, edge_small _ c.requires.fact_1 _ c.requires.fact_2)

pub offset_bounds-l-i : goal.offset_bounds-l-i
offset_bounds-l-i c = omega (arith, edge_small _ c.requires.fact_1 _ c.requires.fact_2)

pub bounds-l-i : goal.bounds-l-i
bounds-l-i c = omega (arith, edge_small _ c.requires.fact_1 _ c.requires.fact_2)

pub returns : goal.returns
returns c = sym (to_at _ c.requires.fact_1 _ c.requires.fact_2)
