-- Interference sets as data flow over the edges, and what the table holds in the end.
use Rattle.std.specs.Prelude.{ℕ, ◌+◌, ◌*◌, ◌/◌, ◌%◌, ◌<◌, ◌≡◌, List, ◌⊎◌, ◌↔◌, length, get_or}
use Rattle.model.specs.declared.Problem.{Problem}
use Rattle.model.specs.Costs.{function_of}
use Rattle.model.specs.Walks.{EdgeOf}
use Rattle.model.specs.Interference.{Interferes}
use Rattle.model.specs.Results.{Member}
use Rattle.bits.specs.Words.{Has, RowMember}
use Rattle.flow.specs.Rounds.{Flow}
use Rattle.model.specs.Places as places

-- A word for each vertex and function: the sets of a vertex stand together, at as many words as there may be functions.
abbrev pub set_words : ℕ
set_words = places.most_vertices * places.most_functions

abbrev pub set_at : ℕ → ℕ → ℕ
set_at v f = places.most_functions * v + f

-- Over an edge from u, of function g, the set of its end and f gains the set of u and f, and g itself; but not if g is f.
abbrev pub Gains : List ℕ → ℕ → ℕ → ℕ → ℕ → Type 0
Gains ws u f g b = (g ≡ f → ⊥) × ((b ≡ g) ⊎ Has ws (set_at u f) b)

-- The first n words of a row that has what edges from u bring.
pub record Leaves (ws : List ℕ) (u g n : ℕ) (row : List ℕ) : Type 0 where
  pub long : length row ≡ places.most_functions
  pub words : (f b : ℕ) → f < n → RowMember row f b ↔ Gains ws u f g b

module _ (p : Problem) where
  -- Word k holds members of its set.
  abbrev pub InSet : ℕ → ℕ → Type 0
  InSet k b = Interferes (function_of p) (EdgeOf p) (k / places.most_functions) (k % places.most_functions) b

  -- The flow of the interference sets.
  abbrev pub set_flow : Flow p
  set_flow = record {
    size = set_words;
    width = places.most_functions;
    at = set_at;
    Brings = λ ws u f b. Gains ws u f (function_of p u) b;
    Good = InSet;
  }

  -- The interference sets.
  pub record SetTable (ws : List ℕ) : Type 0 where
    pub long : length ws ≡ set_words
    pub member : (v f g : ℕ) → v < p.vertex_count → f < p.function_count →
        Member (get_or ws (set_at v f) 0) g ↔ Interferes (function_of p) (EdgeOf p) v f g
