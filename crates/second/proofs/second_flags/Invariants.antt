-- `second::second_flags` has the flags of the vertices passed.
use Prim.Native.Nat.{◌≤◌}
use Rattle.charges.proofs.Filling.{ValuesBelow}
use Rattle.second.specs.Second.{second_flag}
use Rattle.second.proofs.second_flags.Given as goal

abbrev pub invariant-loop-v : goal.invariant-loop-v
invariant-loop-v l = (l.v ≤ l.count) × ValuesBelow (second_flag l.loops l.early l.flags) l.v l.charged
