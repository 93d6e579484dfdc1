-- `lookup::own_cost` reads the place that the own cost of a vertex stands at.
use mathlib.Core.Path.{sym}
use native.Mathlib.Omega.{arith}
use Rattle.lookup.proofs.Places.{few_vertices, cost_at}
use Rattle.lookup.proofs.own_cost.Goals as goal

pub overflow_mul-result : goal.overflow_mul-result
overflow_mul-result c = omega (arith, few_vertices _ c.requires.fact_1)

pub overflow_add-result : goal.overflow_add-result
overflow_add-result c = omega (arith, few_vertices _ c.requires.fact_1)

pub offset_bounds-l-v : goal.offset_bounds-l-v
offset_bounds-l-v c = omega (arith, few_vertices _ c.requires.fact_1)

pub bounds-l-v : goal.bounds-l-v
bounds-l-v c = omega (arith, few_vertices _ c.requires.fact_1)

pub returns : goal.returns
returns c = sym (cost_at _ c.requires.fact_1 _ c.requires.fact_2)
