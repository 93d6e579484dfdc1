-- `step_table` marks the start and every edge. The loop's invariant: the first i edges are marked.
use Prim.Native.Nat.{◌≤◌}
use lib.ListN.{length}
use Rattle.model.specs.Numbers.{problem_of}
use Rattle.model.specs.Graph.{edges_of}
use Rattle.steps.proofs.Steps.{StepsMarked}
use Rattle.steps.proofs.step_table.Given as goal

abbrev pub invariant-loop-i : goal.invariant-loop-i
invariant-loop-i l = (l.i ≤ length (edges_of (problem_of l.l))) × StepsMarked (problem_of l.l) l.i l.table
