-- Edges by where they lead and loops by what they hold, as chains in a table: from a vertex's last one back to its first.
use Rattle.std.specs.Prelude.{ℕ, zero, suc, ◌+◌, ◌≤◌, ◌<◌, ◌≡◌, List, Bool, cond, length, get_or, eqb}
use Rattle.model.specs.declared.Loop.{Loop}
use Rattle.model.specs.Graph.{holds, loop}
use Rattle.model.specs.Places as places
use Rattle.lookup.specs.Lists.{edges_in, loops_in}
use Rattle.greatest.specs.Numbers.{ends, NoHeader}

-- How many places the tables have.
abbrev pub edge_places : ℕ
edge_places = places.most_vertices + places.most_edges

abbrev pub loop_places : ℕ
loop_places = places.most_vertices + places.most_loops

-- One more than the greatest number below n that passes the test, or 0.
unfoldable pub last_below : (ℕ → Bool) → ℕ → ℕ
last_below test zero = 0
last_below test (suc i) = cond (test i) (suc i) (last_below test i)

-- The chains of n things: `of v i` says whether thing i is in the chain of vertex v. A vertex's place has the last one in its chain, and the place of
-- thing i, behind those of the vertices, the one before i in the chain of the vertex `at i`.
pub record Chains (of : ℕ → ℕ → Bool) (at : ℕ → ℕ) (n : ℕ) (s : List ℕ) : Type 0 where
  pub last : (v : ℕ) → v < places.most_vertices → get_or s v 0 ≡ last_below (of v) n
  pub link : (i : ℕ) → i < n → get_or s (places.most_vertices + i) 0 ≡ last_below (of (at i)) i

abbrev pub edge_count : List ℕ → ℕ
edge_count l = length (edges_in l)

unfoldable pub leads : List ℕ → ℕ → ℕ → Bool
leads l v i = eqb (ends (edges_in l) i) v

abbrev pub EdgeChains : List ℕ → List ℕ → Type 0
EdgeChains l s = Chains (leads l) (ends (edges_in l)) (edge_count l) s

unfoldable pub around : List ℕ → ℕ → ℕ → Bool
around l v i = holds (loop (loops_in l) i) v

abbrev pub headers : List ℕ → ℕ → ℕ
headers l i = (loop (loops_in l) i).header

abbrev pub LoopChains : List ℕ → List ℕ → Type 0
LoopChains l s = Chains (around l) (headers l) (length (loops_in l)) s

-- The tables of chains that the functions go by.
pub record Chained (l edges loops : List ℕ) : Type 0 where
  pub into : EdgeChains l edges
  pub out : LoopChains l loops

-- A table before and after the places from `first` on, up to `end`, get one number.
pub record Overwritten (before after : List ℕ) (first end with : ℕ) : Type 0 where
  pub long : length after ≡ length before
  pub inside : (v : ℕ) → first ≤ v → v < end → get_or after v 0 ≡ with
  pub below : (v : ℕ) → v < first → get_or after v 0 ≡ get_or before v 0
  pub above : (v : ℕ) → end ≤ v → get_or after v 0 ≡ get_or before v 0

-- r is the index of the loop that begins at v, or the number of loops.
pub record BeginsAt (ls : List Loop) (v r : ℕ) : Type 0 where
  pub found : r < length ls → (loop ls r).header ≡ v
  pub none : length ls ≤ r → NoHeader ls v
