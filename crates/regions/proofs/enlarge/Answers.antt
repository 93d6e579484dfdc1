-- `layout::enlarge` takes the larger of two sizes, in a region that there is.
use native.Mathlib.Omega.{arith}
use Rattle.std.proofs.lemmas.Grind.{common_steps}
use Rattle.regions.proofs.Sizes.{in_region, in_none}
use Rattle.regions.proofs.enlarge.Goals as goal

pub returns-then-region-lt-MOST_REGIONS : goal.returns-then-region-lt-MOST_REGIONS
returns-then-region-lt-MOST_REGIONS c = in_region c.requires _ c.if-region-lt-MOST_REGIONS.true (grind (arith, common_steps))

pub returns-else-region-lt-MOST_REGIONS : goal.returns-else-region-lt-MOST_REGIONS
returns-else-region-lt-MOST_REGIONS c = in_none c.requires _ c.if-region-lt-MOST_REGIONS.false
