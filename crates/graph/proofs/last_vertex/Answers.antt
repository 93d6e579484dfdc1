-- `graph::last_vertex` is the number below the count.
use native.Mathlib.Omega.{arith}
use Rattle.lookup.proofs.Places.{some_vertex}
use Rattle.graph.proofs.last_vertex.Goals as goal

pub overflow_sub-result : goal.overflow_sub-result
overflow_sub-result c = omega (arith, some_vertex _ c.requires)
