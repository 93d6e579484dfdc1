-- What an edge leaves: the loops that hold its start and not its end, by a table of what stands for each.
use Rattle.std.specs.Prelude.{ℕ, List, cond}
use Rattle.model.specs.declared.Loop.{Loop}
use Rattle.model.specs.Graph.{holds}
use Rattle.model.specs.Walks.{sum}
use Rattle.lookup.specs.Lists.{loops_in}
use Rattle.stays.specs.Tables.{by_header}

-- What a loop adds to the edge from u to v: what stands for it in w, if the edge leaves it.
unfoldable pub left_of : List ℕ → ℕ → ℕ → Loop → ℕ
left_of w u v k = cond (holds k u) (cond (holds k v) 0 (by_header w k)) 0

-- What the edge from u to v leaves.
unfoldable pub leaving : List ℕ → List ℕ → ℕ → ℕ → ℕ
leaving l w u v = sum (left_of w u v) (loops_in l)
