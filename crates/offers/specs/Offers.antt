-- What edges bring to a vertex, and the numbers of `greatest` that are the greatest of it: of a vertex, of entering a loop and of its iteration.
use Rattle.std.specs.Prelude.{ℕ, ◌+◌, min, List, Bool, true, cond, not, ◌&&◌, eqb}
use Rattle.model.specs.declared.Loop.{Loop}
use Rattle.model.specs.Graph.{holds}
use Rattle.model.specs.Operations.{Checked}
use Rattle.lookup.specs.Lists.{edges_in}
use Rattle.lookup.specs.Plain.{range_of}
use Rattle.greatest.specs.Numbers.{starts, ends, best}
use Rattle.chains.specs.Chains.{edge_count}
use Rattle.stays.specs.Tables.{cap, Capped, by_header, by_vertex}
use Rattle.stays.specs.Leaving.{leaving}
use Rattle.offers.specs.declared.Origin.{Origin}
use Rattle.offers.specs.declared.Origin.TheVariants.{Anywhere, Outside, Inside}

-- What the functions that read the tables ask.
pub record Ready (l d w : List ℕ) : Type 0 where
  pub checked : Checked l
  pub visits : Capped d
  pub stays : Capped w

-- Which edges count, by their start u.
abbrev pub comes : Origin → ℕ → Bool
comes Anywhere u = true
comes (Outside header last) u = not (holds (range_of header last) u)
comes (Inside header last) u = holds (range_of header last) u

-- What the edge from u brings to v, with `more` for the visit.
unfoldable pub brought : List ℕ → List ℕ → List ℕ → ℕ → ℕ → ℕ → ℕ
brought l d w v more u = min cap (by_vertex d u + leaving l w u v + more)

-- The same for edge i, 0 if it leads elsewhere or does not count.
unfoldable pub offered : List ℕ → List ℕ → List ℕ → ℕ → ℕ → Origin → ℕ → ℕ
offered l d w v more origin i = cond (eqb (ends (edges_in l) i) v && comes origin (starts (edges_in l) i)) (brought l d w v more (starts (edges_in l) i)) 0

-- The greatest number that one of the first m edges brings to v.
unfoldable pub best_into : List ℕ → List ℕ → List ℕ → ℕ → ℕ → Origin → ℕ → ℕ
best_into l d w v more origin m = best (starts (edges_in l)) (ends (edges_in l)) (comes origin) (brought l d w v more) v m

-- The number of a vertex that is no header, of entering a loop, and of a loop's iteration, with what a visit and an entry pay by vertex and by header.
-- What is before a walk's start is nothing.
unfoldable pub visit_number : List ℕ → List ℕ → List ℕ → List ℕ → ℕ → ℕ
visit_number l charge d w v = cond (eqb v 0) (by_vertex charge v) (best_into l d w v (by_vertex charge v) Anywhere (edge_count l))

unfoldable pub entry_number : List ℕ → List ℕ → List ℕ → List ℕ → Loop → ℕ
entry_number l enter d w k =
    cond (eqb k.header 0) (by_header enter k) (best_into l d w k.header (by_header enter k) (Outside k.header k.last) (edge_count l))

unfoldable pub turn_number : List ℕ → List ℕ → List ℕ → Loop → ℕ
turn_number l d w k = best_into l d w k.header 0 (Inside k.header k.last) (edge_count l)
