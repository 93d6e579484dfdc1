-- `simulation::cost_table` enters what a visit to every vertex costs. The loop's invariant: the first v vertices are entered.
use Prim.Native.Nat.{ℕ, ◌≤◌}
use Rattle.model.specs.Numbers.{problem_of}
use Rattle.model.specs.Costs.{function_of, own_cost, load_cost, check_cost}
use Rattle.model.specs.Places.{most_vertices}
use Rattle.simulation.specs.Running.{CostsBelow}
use Rattle.simulation.proofs.cost_table.Given as goal

abbrev pub invariant-loop-v : goal.invariant-loop-v
invariant-loop-v l = (l.count ≤ most_vertices)
    × CostsBelow (own_cost (problem_of l.l)) (λ (k : ℕ). load_cost (problem_of l.l) (function_of (problem_of l.l) k)) (λ (k : ℕ). check_cost (problem_of l.l) (function_of (problem_of l.l) k)) l.v l.table
