-- A search back from the goal, first come first served: the queue of the states that have a number, and what holds while a state's turn lasts.
use Rattle.std.specs.Prelude.{ℕ, suc, ◌+◌, ◌*◌, ◌≤◌, ◌<◌, ◌≡◌, List, [], ◌∷◌, Bool, true, cond, ltb, length, get_or, set}
use Rattle.model.specs.declared.Problem.{Problem}
use Rattle.model.specs.Numbers.{problem_of}
use Rattle.model.specs.Operations.{Checked}
use Rattle.model.specs.Walks.{EdgeOf}
use Rattle.lookup.specs.Lists.{edges_in}
use Rattle.greatest.specs.Numbers.{starts, ends}
use Rattle.ways.specs.Ways.{most_states, no_way, steps, turn, Nearing}

-- How many states have no number yet.
unfoldable pub unnumbered : List ℕ → ℕ
unnumbered [] = 0
unnumbered (x ∷ xs) = cond (ltb x no_way) (unnumbered xs) (suc (unnumbered xs))

-- The number of the state at place k of the queue.
abbrev pub number_at : List ℕ → List ℕ → ℕ → ℕ
number_at d queue k = get_or d (get_or queue k 0) 0

-- The states that have a number stand in the queue below its end, each once, and their numbers ascend.
pub record Queued (d queue : List ℕ) (end : ℕ) : Type 0 where
  pub table : length d ≡ most_states
  pub long : length queue ≡ most_states
  pub room : end + unnumbered d ≡ most_states
  pub inside : (k : ℕ) → k < end → get_or queue k 0 < most_states
  pub low : (k : ℕ) → k < end → number_at d queue k ≤ k
  pub all : (j : ℕ) → j < most_states → get_or d j 0 < no_way → (k : ℕ) × (k < end) × (get_or queue k 0 ≡ j)
  pub ascend : (k m : ℕ) → m < end → k ≤ m → number_at d queue k ≤ number_at d queue m

-- A state that leads on as asked and has no number gets one. Any other changes nothing.
pub data Entered (leads : Bool) (state number : ℕ) (d queue : List ℕ) (end : ℕ) : List ℕ → List ℕ → ℕ → Type 0 where
  kept : (leads ≡ true → get_or d state 0 < no_way) → Entered leads state number d queue end d queue end
  new : leads ≡ true → no_way ≤ get_or d state 0 → Entered leads state number d queue end (set d state number) (set queue end state) (end + 1)

module _ (p : Problem) (f g : ℕ) where
  -- u, met in phase s, is one step before w, met in phase t.
  pub record Before (w t u s : ℕ) : Type 0 where
    pub edge : EdgeOf p u w
    pub low : s < 2
    pub turns : turn p f g s u ≡ t

  -- The queue is done up to `first`: what is one step before a state there has at most one more than its number. No number is more than one above
  -- that of the state at `first`.
  pub record Searching (v : ℕ) (d queue : List ℕ) (first end : ℕ) : Type 0 where
    pub nearing : Nearing p f g v d
    pub queued : Queued d queue end
    pub within : first ≤ end
    pub close : (k : ℕ) → first < end → k < end → number_at d queue k ≤ suc (number_at d queue first)
    pub done : (k w t u s : ℕ) → k < first → get_or queue k 0 ≡ 2 * w + t → Before w t u s → steps d u s ≤ suc (number_at d queue k)

  module _ (w t number : ℕ) where
    -- It is the turn of w, met in phase t. What is before it gets this number.
    pub record Turning (v first : ℕ) (d queue : List ℕ) (end : ℕ) : Type 0 where
      pub searching : Searching v d queue first end
      pub some : first < end
      pub state : get_or queue first 0 ≡ 2 * w + t
      pub low : t < 2
      pub next : number ≡ suc (steps d w t)

    -- Some of the states before it got a number, so that those that `Passed` names have one that is no higher.
    pub record Passing (Passed : ℕ → ℕ → Type 0) (d queue : List ℕ) (end : ℕ) (d' queue' : List ℕ) (end' : ℕ) : Type 0 where
      pub still : (v first : ℕ) → Turning v first d queue end → Turning v first d' queue' end'
      pub lower : (j : ℕ) → get_or d' j 0 ≤ get_or d j 0
      pub passed : (u s : ℕ) → Passed u s → steps d' u s ≤ number

    abbrev pub AllPassed : List ℕ → List ℕ → ℕ → List ℕ → List ℕ → ℕ → Type 0
    AllPassed = Passing (Before w t)

-- It is the turn of w in some search.
pub record Arriving (l : List ℕ) (f g w t number : ℕ) (d queue : List ℕ) (end : ℕ) : Type 0 where
  pub checked : Checked l
  pub goal : ℕ
  pub first : ℕ
  pub turning : Turning (problem_of l) f g w t number goal first d queue end

module _ (l : List ℕ) (f g i t : ℕ) where
  -- The start of edge i, in each phase before phase t.
  pub record StartOf (u s : ℕ) : Type 0 where
    pub start : u ≡ starts (edges_in l) i
    pub low : s < 2
    pub turns : turn (problem_of l) f g s u ≡ t

  abbrev pub StartPassed : ℕ → List ℕ → List ℕ → ℕ → List ℕ → List ℕ → ℕ → Type 0
  StartPassed number = Passing (problem_of l) f g (ends (edges_in l) i) t number StartOf
