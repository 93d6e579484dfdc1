-- `lookup::load_of` reads the place that the load cost of a function stands at.
use mathlib.Core.Path.{sym}
use native.Mathlib.Omega.{arith}
use Rattle.lookup.proofs.Places.{few_functions, load_at}
use Rattle.lookup.proofs.load_of.Goals as goal

pub overflow_mul-result : goal.overflow_mul-result
overflow_mul-result c = omega (arith, few_functions _ c.requires.fact_1)

pub overflow_add-result : goal.overflow_add-result
overflow_add-result c = omega (arith, few_functions _ c.requires.fact_1)

pub offset_bounds-l-f : goal.offset_bounds-l-f
offset_bounds-l-f c = omega (arith, few_functions _ c.requires.fact_1)

pub bounds-l-f : goal.bounds-l-f
bounds-l-f c = omega (arith, few_functions _ c.requires.fact_1)

pub returns : goal.returns
returns c = sym (load_at _ c.requires.fact_1 _ c.requires.fact_2)
