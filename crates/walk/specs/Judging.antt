-- What judging a walk keeps beside the latest vertex: the headers' bounds, and the visits to the headers in the present stays.
use Rattle.std.specs.Prelude.{ℕ, ◌+◌, ◌-◌, ◌*◌, ◌≤◌, ◌<◌, ◌≡◌, Bool, true, length, get_or, set, leb}
use mathlib.Core.List.{List, Memᴰ}
use Rattle.model.specs.declared.Loop.{Loop}
use Rattle.model.specs.declared.Problem.{Problem}
use Rattle.model.specs.Graph.{loops_of, holds}
use Rattle.model.specs.Walks.{visits}
use Rattle.steps.specs.Steps.{latest}
use Rattle.model.specs.Places as places
use Rattle.model.specs.Limits as limits

module _ (p : Problem) where
  -- A table of the headers' bounds. Any other vertex may be visited at least once.
  pub record Bounds (table : List ℕ) : Type 0 where
    pub own : (o : Loop) → Memᴰ o (loops_of p) → get_or table o.header 0 ≡ o.bound
    pub low : (v : ℕ) → v < places.most_vertices → 1 ≤ get_or table v 0
    pub high : (v : ℕ) → v < places.most_vertices → get_or table v 0 ≤ limits.most_visits

  -- A counter a vertex: for every loop that the walk is in, the visits to its header in the present stay.
  abbrev pub Tally : List ℕ → List ℕ → Type 0
  Tally h counts = (o : Loop) → Memᴰ o (loops_of p) → holds o (latest h) ≡ true → get_or counts o.header 0 ≡ visits o h

-- The counters are no higher than the highest bound.
pub record Counters (counts : List ℕ) : Type 0 where
  pub long : length counts ≡ places.most_vertices
  pub small : (v : ℕ) → v < places.most_vertices → get_or counts v 0 ≤ limits.most_visits

-- The counter of v after a step there.
abbrev pub count_after : List ℕ → ℕ → ℕ → ℕ
count_after counts step v = get_or counts v 0 * (step - 1) + 1

pub record Arriving (counts : List ℕ) (step v : ℕ) : Type 0 where
  pub counters : Counters counts
  pub inside : v < places.most_vertices
  pub step_low : 1 ≤ step
  pub step_high : step ≤ 2

-- An arrival at v is counted, unless that passes its bound.
pub record Arrived (bounds before after : List ℕ) (step v : ℕ) (within : Bool) : Type 0 where
  pub told : within ≡ leb (count_after before step v) (get_or bounds v 0)
  pub counted : within ≡ true → after ≡ set before v (count_after before step v)
