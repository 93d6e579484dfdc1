-- `region_of` is what the layout lists for the function.
use mathlib.Core.Path.{sym}
use Rattle.filled.proofs.Filled.{listed}
use Rattle.regions.proofs.region_of.Goals as goal

pub returns : goal.returns
returns c = sym (listed _ _ c.requires)
