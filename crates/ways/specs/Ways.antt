-- Ways on to a vertex v in one of two phases: f ends phase 1, g begins it. A *state* is a vertex that a walk meets in a phase, before the vertex itself counts.
-- A table keeps for each state the steps from there to the goal, which is v met in phase 1.
use Rattle.std.specs.Prelude.{ℕ, suc, ◌+◌, ◌*◌, ◌≤◌, ◌<◌, ◌≡◌, List, [], ◌∷◌, cond, eqb, length, get_or}
use Rattle.model.specs.declared.Problem.{Problem}
use Rattle.model.specs.Costs.{function_of}
use Rattle.model.specs.Places.{most_vertices}
use Rattle.model.specs.Walks.{EdgeOf}
use Rattle.model.specs.Evictions.{Ahead}

-- The phase after a visit, in phase s, to a vertex of the function k.
unfoldable pub phase_after : (f g k s : ℕ) → ℕ
phase_after f g k s = cond (eqb k f) 0 (cond (eqb k g) 1 s)

abbrev pub most_states : ℕ
most_states = 2 * most_vertices

-- The number of a state from which no way leads to the goal: more steps than any way has.
abbrev pub no_way : ℕ
no_way = 2 * most_states

-- The number of vertex u met in phase s.
abbrev pub steps : List ℕ → ℕ → ℕ → ℕ
steps d u s = get_or d (2 * u + s) 0

module _ (p : Problem) (f g : ℕ) where
  -- The phase after a visit to u in phase s.
  abbrev pub turn : ℕ → ℕ → ℕ
  turn s u = phase_after f g (function_of p u) s

  -- No edge from u, met in phase s, leads to a state that is more than one step nearer.
  abbrev pub Settled : List ℕ → ℕ → ℕ → Type 0
  Settled d u s = (w : ℕ) → EdgeOf p u w → steps d u s ≤ suc (steps d w (turn s u))

  -- w is the lowest vertex behind u, met in phase s, that is one step nearer.
  pub record Nearest (d : List ℕ) (s u w : ℕ) : Type 0 where
    pub edge : EdgeOf p u w
    pub nearer : steps d u s ≡ suc (steps d w (turn s u))
    pub least : (x : ℕ) → EdgeOf p u x → steps d u s ≡ suc (steps d x (turn s u)) → w ≤ x

  -- ws goes on from u, met in phase s, always to the lowest vertex one nearer, until the goal.
  abbrev pub Falls : List ℕ → ℕ → ℕ → List ℕ → Type 0
  Falls d s u [] = steps d u s ≡ 0
  Falls d s u (w ∷ ws) = Nearest d s u w × Falls d (turn s u) w ws

  module _ (v : ℕ) where
    -- Numbers on the way: no number is below the steps that its state needs, since each has a support that is nearer.
    pub record Nearing (d : List ℕ) : Type 0 where
      pub long : length d ≡ most_states
      pub most : (u s : ℕ) → u < most_vertices → s < 2 → steps d u s ≤ no_way
      pub reached : steps d v 1 ≡ 0
      pub goal : (u s : ℕ) → u < most_vertices → s < 2 → steps d u s ≡ 0 → (u ≡ v) × (s ≡ 1)
      pub support : (u s k : ℕ) → u < most_vertices → s < 2 → steps d u s ≡ suc k → suc k < no_way →
          (w : ℕ) × EdgeOf p u w × (steps d w (turn s u) ≤ k)

    -- Numbers at rest. A way that there is has fewer steps than there are states.
    pub record Distances (d : List ℕ) : Type 0 where
      pub nearing : Nearing d
      pub few : (u s : ℕ) → u < most_vertices → s < 2 → steps d u s < no_way → steps d u s < most_states
      pub settled : (u s : ℕ) → s < 2 → Settled d u s

    -- ws goes on from u, met in phase s, and its end (u itself if ws is empty) is the goal.
    abbrev pub Onward : ℕ → ℕ → List ℕ → Type 0
    Onward s u [] = (u ≡ v) × (s ≡ 1)
    Onward s u (w ∷ ws) = EdgeOf p u w × Onward (turn s u) w ws

    -- Of all that go on so, ws has the fewest entries, then the smallest number at the first difference.
    pub record Best (s u : ℕ) (ws : List ℕ) : Type 0 where
      pub goes : Onward s u ws
      pub ahead : (xs : List ℕ) → Onward s u xs → Ahead ws xs
