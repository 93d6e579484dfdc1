-- `walk::bound_table` enters every loop at its header. The loop's invariant: the first i loops are entered.
use Prim.Native.Nat.{◌≤◌}
use Rattle.model.specs.Numbers.{problem_of}
use Rattle.walk.proofs.Bounds.{Entered}
use Rattle.model.specs.Places as places
use Rattle.walk.proofs.bound_table.Given as goal

abbrev pub invariant-loop-i : goal.invariant-loop-i
invariant-loop-i l = (l.count ≤ places.most_loops) × Entered (problem_of l.l) l.i l.table
