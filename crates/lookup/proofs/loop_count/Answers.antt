-- `lookup::loop_count` reads the place of the count, which is how many loops the problem has.
use mathlib.Core.Path.{sym}
use Rattle.lookup.proofs.Places.{loop_count_lem}
use Rattle.lookup.proofs.loop_count.Goals as goal

pub returns : goal.returns
returns c = sym (loop_count_lem _ c.requires)
