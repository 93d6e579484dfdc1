use mathlib.Core.Path.{◌∙◌}
use Rattle.filled.proofs.Filling.{free_is}
use Rattle.filled.proofs.lowest_free.Goals as goal

pub returns : goal.returns
returns c = c.trailing_ones.ensures ∙ free_is _ c.ranges.used.fits
