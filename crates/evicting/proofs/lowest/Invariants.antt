-- `lowest` keeps the lowest function that a vertex so far names.
use Prim.Native.Nat.{◌≤◌}
use Rattle.model.specs.Numbers.{problem_of}
use Rattle.evicting.specs.Evicting.{Lowest}
use Rattle.evicting.proofs.lowest.Given as goal

abbrev pub invariant-loop-u : goal.invariant-loop-u
invariant-loop-u l = (l.u ≤ l.count) × Lowest (problem_of l.l) l.regions l.f l.steps l.u l.least
