-- `charges::fill_charges` keeps the visit charges of the vertices passed.
use Prim.Native.Nat.{◌≤◌}
use Rattle.model.specs.Numbers.{problem_of}
use Rattle.charges.specs.Tests.{flagged}
use Rattle.charges.proofs.Filling.{ChargedTo}
use Rattle.charges.proofs.fill_charges.Given as goal

abbrev pub invariant-loop-v : goal.invariant-loop-v
invariant-loop-v l = (l.v ≤ l.count) × ChargedTo (problem_of l.l) (flagged l.flags) l.v l.charge
