-- Of a checked problem: edges lead from vertices to vertices, and no vertex is of the function behind the last.
use Prim.Native.Nat.{ℕ}
use mathlib.Core.Path.{◌≡◌}
use mathlib.Core.List.{List}
use native.Mathlib.Omega.{arith}
use Rattle.model.specs.Numbers.{problem_of}
use Rattle.model.specs.Operations.{Checked}
use Rattle.model.specs.Costs.{function_of}
use Rattle.model.specs.Places.{most_functions}
use Rattle.model.specs.Walks.{EdgeOf}
use Rattle.lookup.proofs.Places.{facts, few_functions, function_below, vertex_small}
use Rattle.lookup.proofs.Walks.{edge_below}
use Rattle.ways.proofs.Exact.{EdgesSmall}

module _ (l : List ℕ) (ok : Checked l) where
  pub edges_small : EdgesSmall (problem_of l)
  edges_small u w edge =
      let (from, to) = edge_below ok edge in (vertex_small l (facts l ok) u from, vertex_small l (facts l ok) w to)

  pub no_function : (u w : ℕ) → EdgeOf (problem_of l) u w → function_of (problem_of l) u ≡ most_functions → ⊥
  no_function u w edge is = omega (arith, function_below l (facts l ok) u (edge_below ok edge).0, few_functions l (facts l ok))
