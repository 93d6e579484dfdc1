-- The tables while they are filled: which equations of `greatest` hold so far.
use Rattle.std.specs.Prelude.{ℕ, ◌+◌, ◌-◌, ◌*◌, ◌≤◌, ◌<◌, min, ◌≡◌, ◌⊎◌, length}
use mathlib.Core.List.{List, Memᴰ}
use Rattle.model.specs.declared.Loop.{Loop}
use Rattle.model.specs.Places as places
use Rattle.lookup.specs.Lists.{vertices_in, edges_in, loops_in}
use Rattle.greatest.specs.Numbers.{starts, ends, SolvedUpto}
use Rattle.chains.specs.Chains.{edge_count}
use Rattle.stays.specs.Tables.{cap, Capped, by_header, by_vertex}
use Rattle.offers.specs.Offers.{Ready}

-- What stands for a loop in w: entering it, and all its iterations but the last. The iteration of a loop that begins at x or later is nothing so far.
pub record Kept (ls : List Loop) (e w : List ℕ) (turns : Loop → ℕ) (x : ℕ) : Type 0 where
  pub stays : (k : Loop) → Memᴰ k ls → by_header w k ≡ min cap (by_header e k + (k.bound - 1) * turns k)
  pub later : (k : Loop) → Memᴰ k ls → x ≤ k.header → turns k ≡ 0

-- The equations of the vertices below x, and of the iterations of the loops that are done.
pub record Filling (l charge enter d e w : List ℕ) (x : ℕ) (done : Loop → Type 0) : Type 0 where
  pub turns : Loop → ℕ
  pub ready : Ready l d w
  pub entries : Capped e
  pub charges : Capped charge
  pub enters : Capped enter
  pub visits_long : length d ≡ places.most_vertices
  pub entries_long : length e ≡ places.most_vertices
  pub stays_long : length w ≡ places.most_vertices
  pub kept : Kept (loops_in l) e w turns x
  pub upto :
      SolvedUpto (starts (edges_in l)) (ends (edges_in l)) (edge_count l) (loops_in l) (by_vertex charge) (by_header enter) (by_vertex d) (by_header e) turns cap x done

-- Which loops are done: before vertex x, where no loop ends at x;
abbrev pub Before : ℕ → Loop → Type 0
Before x k = k.last < x

-- in a part of the vertices from `first` on, filled up to x: a loop around the part, which may end with it, is not done;
abbrev pub Since : ℕ → ℕ → Loop → Type 0
Since first x k = (k.last + 1 < first) ⊎ ((first ≤ k.header) × (k.last < x))

-- after the loop from header to last.
abbrev pub After : ℕ → ℕ → Loop → Type 0
After header last k = (k.last < header) ⊎ ((header ≤ k.header) × (k.last ≤ last))

-- The tables as loop k is come to, and as it is passed.
abbrev pub ToLoop : (l charge enter d e w : List ℕ) → Loop → Type 0
ToLoop l charge enter d e w k = Filling l charge enter d e w k.header (Before k.header)

abbrev pub PastLoop : (l charge enter d e w : List ℕ) → Loop → Type 0
PastLoop l charge enter d e w k = Filling l charge enter d e w (k.last + 1) (After k.header k.last)

-- The vertices from `first` to `to`, the latter not counted: a loop is behind them, around them, or whole among them.
pub record Part (l : List ℕ) (first to : ℕ) : Type 0 where
  pub order : first ≤ to
  pub end : to ≤ vertices_in l
  pub around : (k : Loop) → Memᴰ k (loops_in l) → k.header < first → (k.last + 1 < first) ⊎ (to ≤ k.last + 1)
  pub whole : (k : Loop) → Memᴰ k (loops_in l) → first ≤ k.header → k.header < to → k.last < to

-- A part filled up to v, with the loops that begin below v.
pub record Partly (l charge enter d e w : List ℕ) (first to v : ℕ) : Type 0 where
  pub low : first ≤ v
  pub high : v ≤ to
  pub whole : (k : Loop) → Memᴰ k (loops_in l) → first ≤ k.header → k.header < v → k.last < v
  pub filling : Filling l charge enter d e w v (Since first v)
