-- Runs of a drawn program with a call stack (2/14).
use Rattle.std.specs.Prelude.{ℕ, ◌+◌, ◌≡◌, List, [], ◌∷◌, map, cond, Some, None}
use Rattle.model.specs.Graph.{loops_of}
use Rattle.model.specs.Costs.{own_cost, load_cost, check_cost}
use Rattle.model.specs.Layouts.{region_of}
use Rattle.model.specs.Walks.{EdgeOf, last_vertex, Within}
use Rattle.model.specs.Runs.{hit, check_at}
use Rattle.model.specs.Drawings.{called_by, graph_of}

-- An activation of a function: the vertex that it is at, and those of its graph that it visited before, the latest first.
pub record Frame : Type 0 where
  pub function : ℕ
  pub vertex : ℕ
  pub before : List ℕ

abbrev pub frame : ℕ → ℕ → List ℕ → Frame
frame f v h = record { function = f; vertex = v; before = h }

-- The running activation, and below it those that wait for it.
pub data Stack : Type 0 where
  stack : Frame → List Frame → Stack

-- The function that runs.
abbrev pub running : Stack → ℕ
running (stack a s) = a.function

module _ (d : List ℕ) where
  -- A call begins an activation at its first vertex; a vertex that calls nothing goes along an edge of its graph; at a graph's last vertex the
  -- activation ends, and its caller goes along an edge from the call vertex.
  pub data Step : Stack → Stack → Type 0 where
    call : {f v g : ℕ} {h : List ℕ} {s : List Frame} → called_by d f v ≡ Some g →
        Step (stack (frame f v h) s) (stack (frame g 0 []) (frame f v h ∷ s))
    go : {f v w : ℕ} {h : List ℕ} {s : List Frame} → called_by d f v ≡ None → EdgeOf (graph_of d f) v w →
        Step (stack (frame f v h) s) (stack (frame f w (v ∷ h)) s)
    back : {g v f u w : ℕ} {k h : List ℕ} {s : List Frame} → v ≡ last_vertex (graph_of d g) → EdgeOf (graph_of d f) u w →
        Step (stack (frame g v k) (frame f u h ∷ s)) (stack (frame f w (u ∷ h)) s)

  -- A run: the stack now, and the stacks before it, the latest first.
  pub data Run : Stack → List Stack → Type 0 where
    begin : Run (stack (frame 0 0 []) []) []
    then : {s t : Stack} {h : List Stack} → Run s h → Step s t → Run t (s ∷ h)

  -- The running activation's own walk keeps the bounds of its function's graph; and so at every stack of a run.
  abbrev pub Keeps : Stack → Type 0
  Keeps (stack a s) = Within (loops_of (graph_of d a.function)) (a.vertex ∷ a.before)

  unfoldable pub AllKeep : List Stack → Type 0
  AllKeep [] = Unit {0}
  AllKeep (s ∷ h) = Keeps s × AllKeep h

  -- A run is lawful if it ends at function 0's last vertex with no caller, and every activation keeps its bounds.
  pub record LawfulRun (walk : List ℕ) (h : List Stack) : Type 0 where
    pub run : Run (stack (frame 0 (last_vertex (graph_of d 0)) walk) []) h
    pub keeps : AllKeep (stack (frame 0 (last_vertex (graph_of d 0)) walk) [] ∷ h)

  -- The own cost of the vertex that is visited, and a function's load cost and check cost.
  abbrev pub own_of : Stack → ℕ
  own_of (stack a s) = own_cost (graph_of d a.function) a.vertex

  abbrev pub load_of : ℕ → ℕ
  load_of f = load_cost (graph_of d f) f

  abbrev pub check_of : ℕ → ℕ
  check_of f = check_cost (graph_of d f) f

  -- Simulated cycles of a run: those of a walk (Runs), of the vertices that it visits.
  unfoldable pub stack_cycles : List ℕ → List Stack → ℕ
  stack_cycles layout [] = 0
  stack_cycles layout (s ∷ h) =
      stack_cycles layout h
      + (own_of s + check_at (λ f. f) check_of (running s) (map running h) + cond (hit (λ f. f) (region_of layout) (running s) (map running h)) 0 (load_of (running s)))
