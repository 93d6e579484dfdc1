-- The edges of a checked problem lead from vertices to vertices, and its walks stay among them.
use Prim.Native.Nat.{ℕ, ◌<◌}
use mathlib.Core.Path.{ap}
use mathlib.Core.List.{List}
use native.Mathlib.Omega.{arith}
use Rattle.model.specs.declared.Edge.{Edge}
use Rattle.model.specs.Zero.{zero_edge}
use Rattle.model.specs.Numbers.{problem_of}
use Rattle.model.specs.Operations.{Checked}
use Rattle.model.specs.Costs.{function_of}
use Rattle.model.specs.Walks.{EdgeOf, Walk, start, step}
use Rattle.model.proofs.Lists.{index_of}
use Rattle.lookup.proofs.Places.{facts, some_vertex, function_below, from_below, to_below}

module _ {l : List ℕ} (checked : Checked l) where
  pub edge_below : {u v : ℕ} → EdgeOf (problem_of l) u v → (u < (problem_of l).vertex_count) × (v < (problem_of l).vertex_count)
  edge_below {u} {v} member =
      let (i, below, is) = index_of zero_edge member in (
        omega (arith, ap (λ (e : Edge). e.from) is, from_below l (facts l checked) i below),
        omega (arith, ap (λ (e : Edge). e.to) is, to_below l (facts l checked) i below),
      )

  pub walk_below : {v : ℕ} {h : List ℕ} → Walk (EdgeOf (problem_of l)) v h → v < (problem_of l).vertex_count
  walk_below start = some_vertex l (facts l checked)
  walk_below (step walk edge) = (edge_below edge).1

  pub walk_function : {v : ℕ} {h : List ℕ} → Walk (EdgeOf (problem_of l)) v h → function_of (problem_of l) v < (problem_of l).function_count
  walk_function {v} walk = function_below l (facts _ checked) v (walk_below walk)
