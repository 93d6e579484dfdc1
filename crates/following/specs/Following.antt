-- Following numbers of steps to the goal.
use Rattle.std.specs.Prelude.{ℕ, ◌≤◌, ◌<◌, ◌≡◌, List, ◌∷◌}
use Rattle.std.proofs.lemmas.List.Edits.{sets}
use Rattle.model.specs.declared.Problem.{Problem}
use Rattle.model.specs.Numbers.{problem_of}
use Rattle.model.specs.Operations.{Checked}
use Rattle.model.specs.Walks.{EdgeOf}
use Rattle.flow.specs.Starts.{Starts}
use Rattle.ways.specs.Ways.{no_way, steps, Distances, Falls}

-- Some vertex behind u has the number k in phase t.
pub record Seekable (l begins d : List ℕ) (u t k : ℕ) : Type 0 where
  pub checked : Checked l
  pub starts : Starts (problem_of l) begins
  pub there : u < (problem_of l).vertex_count
  pub low : t < 2
  pub leads : (w : ℕ) × EdgeOf (problem_of l) u w × (steps d w t ≡ k)

-- r is the lowest.
pub record Lowest (p : Problem) (d : List ℕ) (u t k r : ℕ) : Type 0 where
  pub edge : EdgeOf p u r
  pub has : steps d r t ≡ k
  pub least : (w : ℕ) → EdgeOf p u w → steps d w t ≡ k → r ≤ w

-- Numbers at rest by which a way leads from vertex 0, begun in phase s.
pub record Leading (l begins : List ℕ) (f g : ℕ) (d : List ℕ) (s : ℕ) : Type 0 where
  pub checked : Checked l
  pub starts : Starts (problem_of l) begins
  pub goal : ℕ
  pub at_rest : Distances (problem_of l) f g goal d
  pub low : s < 2
  pub way : steps d 0 s < no_way

-- With room for all its entries.
pub record Followable (l begins : List ℕ) (f g : ℕ) (d : List ℕ) (s room : ℕ) : Type 0 where
  pub leading : Leading l begins f g d s
  pub enough : steps d 0 s < room

-- The walk stands at the front of the buffer.
abbrev pub Followed : Problem → ℕ → ℕ → List ℕ → ℕ → List ℕ → List ℕ → Type 0
Followed p f g d s before after = (ws : List ℕ) × Falls p f g d s 0 ws × (after ≡ sets before 0 (0 ∷ ws))
