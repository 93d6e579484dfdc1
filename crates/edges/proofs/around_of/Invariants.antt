-- `edges::around_of` meets its contract: of the first v vertices the loops around are known, and which of them are held over to v.
use mathlib.Core.Path.{◌≡◌}
use Rattle.model.proofs.Filling.{FilledTo}
use Rattle.edges.specs.Words.{around_at, held_over}
use Rattle.model.specs.Places as places
use Rattle.edges.proofs.around_of.Given as goal

abbrev pub invariant-loop-v : goal.invariant-loop-v
invariant-loop-v l = FilledTo (around_at l.marks) places.most_vertices l.v 0 l.around × (l.held ≡ held_over l.marks l.v)
