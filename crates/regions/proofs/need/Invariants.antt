-- `layout::need` adds up the largest sizes of the regions passed.
use Prim.Native.Nat.{◌-◌}
use Rattle.model.specs.Limits.{most_regions}
use Rattle.model.specs.Numbers.{problem_of}
use Rattle.model.specs.Costs.{total}
use Rattle.model.specs.Layouts.{largest_in}
use Rattle.regions.proofs.Sums.{Upto}
use Rattle.regions.proofs.need.Given as goal

abbrev pub invariant-loop-size : goal.invariant-loop-size
invariant-loop-size l = Upto (λ n. total n (largest_in (problem_of l.l) l.layout)) most_regions l.size-index l.needed.0
