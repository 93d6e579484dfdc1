-- What the regions may hold as data flow over the edges, on a table of rivals, and what the table of words holds in the end.
use Rattle.std.specs.Prelude.{ℕ, ◌≡◌, List, ◌⊎◌, ◌↔◌, length, get_or}
use Rattle.model.specs.declared.Problem.{Problem}
use Rattle.model.specs.Costs.{function_of}
use Rattle.model.specs.Walks.{EdgeOf}
use Rattle.model.specs.Layouts.{region_of}
use Rattle.model.specs.Results.{Member}
use Rattle.sound.specs.Held.{Holds}
use Rattle.bits.specs.Words.{Has}
use Rattle.flow.specs.Rounds.{Flow}
use Rattle.rivals.specs.Rivals.{RivalTable}
use Rattle.model.specs.Places as places

module _ (p : Problem) (rivals : List ℕ) where
  -- Some walk arrives at k with b held, under whatever layout the rivals are those of.
  abbrev pub Shown : ℕ → ℕ → Type 0
  Shown k b = (layout : List ℕ) → RivalTable p layout rivals → Holds (function_of p) (region_of layout) (EdgeOf p) k b

  -- Edges from u bring the function of u, and the members of word u that are no rivals of it.
  abbrev pub Gains : List ℕ → ℕ → ℕ → Type 0
  Gains ws u b = (b ≡ function_of p u) ⊎ ((Member (get_or rivals (function_of p u) 0) b → ⊥) × Has ws u b)

  -- The flow, in rows of one word.
  abbrev pub held_flow : Flow p
  held_flow = record {
    size = places.most_vertices;
    width = 1;
    at = λ v f. v;
    Brings = λ ws u f b. Gains ws u b;
    Good = Shown;
  }

  -- Word v holds the functions that a walk may find held as it arrives at v.
  pub record HeldTable (ws : List ℕ) : Type 0 where
    pub long : length ws ≡ places.most_vertices
    pub member : (layout : List ℕ) → RivalTable p layout rivals → (v g : ℕ) →
        Member (get_or ws v 0) g ↔ Holds (function_of p) (region_of layout) (EdgeOf p) v g
