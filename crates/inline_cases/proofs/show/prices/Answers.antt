-- `prices` cuts layouts that list at least one function.
use native.Mathlib.Omega.{arith}
use Rattle.lookup.proofs.Places.{facts, some_function}
use Rattle.inline_cases.proofs.show.prices.Goals as goal

pub chunks_exact-layout-items-requires : goal.chunks_exact-layout-items-requires
chunks_exact-layout-items-requires g c = omega (arith, some_function _ (facts _ c.requires), c.function_count-width.ensures)

pub loop-layout-init : goal.loop-layout-init
loop-layout-init g c = grind (arith, some_function _ (facts _ c.requires), c.function_count-width.ensures, c.chunks_exact-layout-items.ensures.size, c.into_iter-layout-iterator.ensures.into_iter_gives)
