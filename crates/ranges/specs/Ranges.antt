-- What a list of loops is asked.
use Rattle.std.specs.Prelude.{ℕ, ◌≤◌, ◌<◌, List, Bool, ◌||◌, length}
use Rattle.model.specs.declared.Loop.{Loop}
use Rattle.model.specs.Search.{exists_below}
use Rattle.model.specs.Graph.{loop, holds, crosses}
use Rattle.model.specs.Places as places

-- A bad range, where `end` is the last vertex.
unfoldable pub bad_at : List Loop → ℕ → ℕ → Bool
bad_at ls end j = holds (loop ls j) end || exists_below j (λ i. crosses (loop ls i) (loop ls j))

-- No more ranges than there is room for, none of which ends before its header, with their ends among the vertices that there may be.
pub record Ranged (ls : List Loop) : Type 0 where
  pub few : length ls ≤ places.most_loops
  pub header : (i : ℕ) → i < length ls → (loop ls i).header ≤ (loop ls i).last
  pub last : (i : ℕ) → i < length ls → (loop ls i).last < places.most_vertices
