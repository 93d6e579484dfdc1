-- First reach as data flow over the edges, and what the table holds in the end.
use Rattle.std.specs.Prelude.{ℕ, ◌<◌, ◌≡◌, List, ◌↔◌, length, get_or}
use Rattle.model.specs.declared.Problem.{Problem}
use Rattle.model.specs.Costs.{function_of}
use Rattle.model.specs.Walks.{EdgeOf}
use Rattle.model.specs.Interference.{Fresh}
use Rattle.model.specs.Results.{Member}
use Rattle.bits.specs.Words.{Has}
use Rattle.flow.specs.Rounds.{Flow}
use Rattle.model.specs.Places as places

-- Over an edge from u, of function g, word v gains the members of word u but g.
abbrev pub FreshGains : List ℕ → ℕ → ℕ → ℕ → Type 0
FreshGains ws u g b = (g ≡ b → ⊥) × Has ws u b

module _ (p : Problem) where
  -- First reach: word v holds the functions f such that some walk arrives at v with no earlier vertex of f.
  abbrev pub IsFresh : ℕ → ℕ → Type 0
  IsFresh k b = Fresh (function_of p) (EdgeOf p) b k

  -- The flow of first reach, in rows of one word.
  abbrev pub fresh_flow : Flow p
  fresh_flow = record {
    size = places.most_vertices;
    width = 1;
    at = λ v f. v;
    Brings = λ ws u f b. FreshGains ws u (function_of p u) b;
    Good = IsFresh;
  }

  pub record FreshTable (ws : List ℕ) : Type 0 where
    pub long : length ws ≡ places.most_vertices
    pub member : (v f : ℕ) → v < p.vertex_count → f < p.function_count →
        Member (get_or ws v 0) f ↔ Fresh (function_of p) (EdgeOf p) f v
