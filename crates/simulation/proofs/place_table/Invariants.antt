-- `simulation::place_table` enters every vertex's function and its region. The loop's invariant: the first v vertices are entered.
use Prim.Native.Nat.{ℕ, ◌≤◌}
use Rattle.model.specs.Numbers.{problem_of}
use Rattle.model.specs.Costs.{function_of}
use Rattle.model.specs.Layouts.{region_of}
use Rattle.model.specs.Places.{most_vertices}
use Rattle.simulation.specs.Running.{Pairs}
use Rattle.simulation.proofs.place_table.Given as goal

abbrev pub invariant-loop-v : goal.invariant-loop-v
invariant-loop-v l = (l.count ≤ most_vertices) × Pairs (function_of (problem_of l.l)) (λ (k : ℕ). region_of l.layout (function_of (problem_of l.l) k)) l.v l.table
