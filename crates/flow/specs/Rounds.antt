-- Members that flow along a problem's edges, from row to row of a table. A vertex waits for a visit while its row may hold something that its edges have
-- not brought on.
use Rattle.std.specs.Prelude.{ℕ, ◌≤◌, ◌<◌, ◌≡◌, List, Bool, true, false, ◌⊎◌, length, get_or}
use Rattle.model.specs.declared.Problem.{Problem}
use Rattle.model.specs.Numbers.{problem_of}
use Rattle.model.specs.Graph.{edges_of}
use Rattle.model.specs.Operations.{Checked}
use Rattle.bits.specs.Words.{Has, Sound, Grown}
use Rattle.flow.specs.Starts.{from, to, Starts}
use Rattle.model.specs.Places as places

-- Word f of the row of vertex v, f below the width, stands at place `at v f`. Edges from u bring the members `Brings ws u f` to word f of their ends'
-- rows. `Good` are the members that a place may have.
pub record Flow (p : Problem) : Type 1 where
  pub size : ℕ
  pub width : ℕ
  pub at : ℕ → ℕ → ℕ
  pub Brings : List ℕ → ℕ → ℕ → ℕ → Type 0
  pub Good : ℕ → ℕ → Type 0

abbrev pub Waiting : List Bool → ℕ → Type 0
Waiting marks v = get_or marks v false ≡ true

module _ {p : Problem} (F : Flow p) where
  -- The end of edge i has all that the edge brings.
  abbrev pub Passed : ℕ → List ℕ → Type 0
  Passed i ws = (f b : ℕ) → f < F.width → F.Brings ws (from p i) f b → Has ws (F.at (to p i) f) b

  -- Each vertex has a mark. Each edge has brought all on, or its start waits.
  pub record Flowing (marks : List Bool) (ws : List ℕ) : Type 0 where
    pub long : length ws ≡ F.size
    pub marks_long : length marks ≡ places.most_vertices
    pub each : p.vertex_count ≤ places.most_vertices
    pub sound : Sound F.Good ws
    pub due : (i : ℕ) → i < length (edges_of p) → Waiting marks (from p i) ⊎ Passed i ws

  -- A visit to u. Where it changed nothing, u waits no more and no vertex waits that did not.
  pub record Visited (u : ℕ) (marks : List Bool) (ws : List ℕ) (marks' : List Bool) (after : List ℕ) (changed : Bool) : Type 0 where
    pub flowing : Flowing marks' after
    pub grown : Grown ws after changed
    pub cleared : changed ≡ false → (v : ℕ) → Waiting marks' v → (v ≡ u → ⊥) × Waiting marks v

  -- No vertex waits.
  abbrev pub Settled : List Bool → Type 0
  Settled marks = (v : ℕ) → v < p.vertex_count → Waiting marks v → ⊥

  -- A visit to each vertex.
  pub record Swept (ws : List ℕ) (marks : List Bool) (after : List ℕ) (changed : Bool) : Type 0 where
    pub flowing : Flowing marks after
    pub grown : Grown ws after changed
    pub settled : changed ≡ false → Settled marks

  -- Sweeps until nothing changes.
  pub record Closed (ws after : List ℕ) : Type 0 where
    pub long : length after ≡ length ws
    pub kept : (k b : ℕ) → Has ws k b → Has after k b
    pub sound : Sound F.Good after
    pub passed : (i : ℕ) → i < length (edges_of p) → Passed i after

-- A flow on its way, over numbers that passed the checks and edges that begin where `begins` says.
pub record Underway (l : List ℕ) (F : Flow (problem_of l)) (begins : List ℕ) (marks : List Bool) (ws : List ℕ) : Type 0 where
  pub checked : Checked l
  pub starts : Starts (problem_of l) begins
  pub flowing : Flowing F marks ws
