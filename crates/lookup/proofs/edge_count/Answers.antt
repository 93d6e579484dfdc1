-- `lookup::edge_count` reads the place of the count, which is how many edges the problem has.
use mathlib.Core.Path.{sym}
use Rattle.lookup.proofs.Places.{edge_count}
use Rattle.lookup.proofs.edge_count.Goals as goal

pub returns : goal.returns
returns c = sym (edge_count _ c.requires)
