-- `lookup::loop_bound` reads the place that the loop's bound stands at.
use mathlib.Core.Path.{sym}
use native.Mathlib.Omega.{arith}
use Rattle.lookup.proofs.Places.{loop_small, bound_at}
use Rattle.lookup.proofs.loop_bound.Goals as goal

pub overflow_mul-result : goal.overflow_mul-result
overflow_mul-result c = omega (arith, loop_small _ c.requires.fact_1 _ c.requires.fact_2)

pub overflow_add-result : goal.overflow_add-result
overflow_add-result c = omega (arith, loop_small _ c.requires.fact_1 _ c.requires.fact_2)

pub offset_bounds-l-i : goal.offset_bounds-l-i
offset_bounds-l-i c = omega (arith, loop_small _ c.requires.fact_1 _ c.requires.fact_2)

pub bounds-l-i : goal.bounds-l-i
bounds-l-i c = omega (arith, loop_small _ c.requires.fact_1 _ c.requires.fact_2)

pub returns : goal.returns
returns c = sym (bound_at _ c.requires.fact_1 _ c.requires.fact_2)
