-- `lookup::loop_last` reads the place that the loop's last stands at.
use mathlib.Core.Path.{sym}
use native.Mathlib.Omega.{arith}
use Rattle.lookup.proofs.Places.{loop_small, last_at_lem}
use Rattle.lookup.proofs.loop_last.Goals as goal

pub overflow_mul-result : goal.overflow_mul-result
overflow_mul-result c = omega (arith, loop_small _ c.requires.fact_1 _ c.requires.fact_2)

pub overflow_add-result : goal.overflow_add-result
overflow_add-result c = omega (arith, loop_small _ c.requires.fact_1 _ c.requires.fact_2)

pub offset_bounds-l-i : goal.offset_bounds-l-i
offset_bounds-l-i c = omega (arith, loop_small _ c.requires.fact_1 _ c.requires.fact_2)

pub bounds-l-i : goal.bounds-l-i
bounds-l-i c = omega (arith, loop_small _ c.requires.fact_1 _ c.requires.fact_2)

pub returns : goal.returns
returns c = sym (last_at_lem _ c.requires.fact_1 _ c.requires.fact_2)
