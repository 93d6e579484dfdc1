-- `layout::judge_regions` is its definition, 12: the lowest function with a region above the last is refused.
use Prim.Native.Nat.{◌-◌}
use lib.Dec.{ltb}
use Rattle.model.specs.Limits.{most_regions}
use Rattle.model.specs.Numbers.{problem_of}
use Rattle.model.specs.Layouts.{region_of}
use Rattle.model.proofs.Search.{Searched}
use Rattle.layout.proofs.judge_regions.Given as goal

abbrev pub invariant-loop-f : goal.invariant-loop-f
invariant-loop-f l = Searched (problem_of l.l).function_count (λ g. ltb (most_regions - 1) (region_of l.layout g)) l.f
