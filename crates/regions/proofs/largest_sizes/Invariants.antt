-- `layout::largest_sizes` keeps the largest sizes of the regions among the functions passed.
use Prim.Native.Nat.{◌-◌}
use Rattle.model.specs.Numbers.{problem_of}
use Rattle.regions.proofs.Sizes.{Sizing}
use Rattle.regions.proofs.largest_sizes.Given as goal

abbrev pub invariant-loop-f : goal.invariant-loop-f
invariant-loop-f l = Sizing (problem_of l.l) l.layout l.f l.sizes
