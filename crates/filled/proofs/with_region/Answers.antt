-- `with_region` sets the region's bit, where there is one.
use native.Mathlib.Omega.{arith}
use Rattle.filled.proofs.Filling.{no_region, one_region}
use Rattle.filled.proofs.with_region.Goals as goal

pub returns-then-region-ge-MOST_REGIONS : goal.returns-then-region-ge-MOST_REGIONS
returns-then-region-ge-MOST_REGIONS c = no_region _ _ (omega arith)

pub returns : goal.returns
returns c = one_region _ _ (omega arith)
