use Prim.Native.Nat.{◌-◌}
use native.Mathlib.Omega.{arith}
use borrow.Author.Tests.{lt-ltb, le-ltb}
use Rattle.model.specs.declared.Refusal.TheVariants.{UnknownRegion}
use Rattle.model.specs.Limits.{most_regions}
use Rattle.model.proofs.Search.{start, miss, broken_hit, broken_none}
use Rattle.layout.proofs.judge_regions.Goals as goal

pub loop-f-init : goal.loop-f-init
loop-f-init c = start _ _

pub returns-then-region_of-gt-LAST_REGION : goal.returns-then-region_of-gt-LAST_REGION
returns-then-region_of-gt-LAST_REGION c =
    broken_hit c.loop-f.invariant (omega arith) UnknownRegion
    (rw (← c.region_of.ensures) (lt-ltb (most_regions - 1) _ c.if-region_of-gt-LAST_REGION.true))

pub loop-f-preserved : goal.loop-f-preserved
loop-f-preserved c =
    miss c.loop-f.invariant (omega arith)
    (rw (← c.region_of.ensures) (le-ltb (most_regions - 1) _ c.if-region_of-gt-LAST_REGION.false))

pub returns : goal.returns
returns c = broken_none c.loop-f.invariant (omega arith) UnknownRegion
