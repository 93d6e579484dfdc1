-- States of a drawn program's call stack without its walks, and the number that each has among the vertices of the one problem.
use Prim.Native.Nat.{ℕ, zero, suc, ◌+◌, ◌-◌, ◌≤◌, ◌<◌}
use mathlib.Core.Path.{◌≡◌}
use mathlib.Core.Bool.{cond}
use mathlib.Core.List.{List}
use Rattle.std.specs.Prelude.{Option, Some, None}
use native.Mathlib.Omega.{arith}
use lib.Dec.{leb}
use Rattle.model.specs.Walks.{EdgeOf}
use Rattle.model.specs.Drawings.{drawn_functions, drawn_count, called_by, graph_of}
use Rattle.drawings.specs.Facts.{DrawingFacts}
use Rattle.calls.proofs.Members.{every_edge}

-- Who waits below: the caller's function, its call vertex, its own callers.
pub data Callers : Type 0 where
  nobody : Callers
  from : ℕ → ℕ → Callers → Callers

-- The running function, its vertex, its callers.
pub data State : Type 0 where
  spot : ℕ → ℕ → Callers → State

-- Behind a copy the caller goes on.
abbrev pub pop : State → Callers → State
pop s nobody = s
pop s (from g u c) = spot g (suc u) c

module _ (d : List ℕ) where
  -- Function f can run under these callers.
  abbrev pub Fits : ℕ → Callers → Type 0
  Fits f nobody = f ≡ 0
  Fits f (from g u c) = (called_by d g u ≡ Some f) × (u < drawn_count d g) × Fits g c

  abbrev pub Valid : State → Type 0
  Valid (spot f v c) = (v < drawn_count d f) × Fits f c

  -- One step: a call, an edge, a return that follows an edge of the call.
  pub data Step : State → State → Type 0 where
    call : {f v g : ℕ} {c : Callers} → called_by d f v ≡ Some g → Step (spot f v c) (spot g 0 (from f v c))
    go : {f v w : ℕ} {c : Callers} → called_by d f v ≡ None → EdgeOf (graph_of d f) v w → Step (spot f v c) (spot f w c)
    back : {g v f u w : ℕ} {c : Callers} → suc v ≡ drawn_count d g → EdgeOf (graph_of d f) u w → Step (spot g v (from f u c)) (spot f w c)

  -- The vertex that follows in the one problem: a copy follows its call vertex.
  abbrev pub after : Option ℕ → ℕ → ℕ → Callers → State
  after (Some g) f v c = spot g 0 (from f v c)
  after None f v c = cond (leb (drawn_count d f) (suc v)) (pop (spot f v c) c) (spot f (suc v) c)

  unfoldable pub next : State → State
  next (spot f v c) = after (called_by d f v) f v c

  -- Vertex i of the one problem.
  unfoldable pub at : ℕ → State
  at zero = spot 0 0 nobody
  at (suc i) = next (at i)

  module _ (size : ℕ → ℕ) where
    abbrev pub copied : Option ℕ → ℕ
    copied None = 0
    copied (Some g) = size g

    -- Vertices before v in a copy of f.
    unfoldable pub pos : ℕ → ℕ → ℕ
    pos f zero = 0
    pos f (suc v) = pos f v + 1 + copied (called_by d f v)

    -- The first vertex of the copy under these callers.
    unfoldable pub base : Callers → ℕ
    base nobody = 0
    base (from f v c) = base c + pos f v + 1

    unfoldable pub number : State → ℕ
    number (spot f v c) = base c + pos f v

-- What the refusals leave: 3 (known, inside), 20 (quiet), 18 (sized: such sizes exist where no function reaches itself).
pub record Drawn (d : List ℕ) (size : ℕ → ℕ) : Type 0 where
  pub first : 0 < drawn_functions d
  pub some_vertex : (f : ℕ) → f < drawn_functions d → 1 ≤ drawn_count d f
  pub known : (f v g : ℕ) → f < drawn_functions d → v < drawn_count d f → called_by d f v ≡ Some g → g < drawn_functions d
  pub inside : (f u v : ℕ) → f < drawn_functions d → EdgeOf (graph_of d f) u v → v < drawn_count d f
  pub quiet : (f v : ℕ) → f < drawn_functions d → suc v ≡ drawn_count d f → called_by d f v ≡ None
  pub sized : (f : ℕ) → f < drawn_functions d → size f ≡ pos d size f (drawn_count d f)

module _ (d : List ℕ) (facts : DrawingFacts d) where
  edge_inside : (f u v : ℕ) → f < drawn_functions d → EdgeOf (graph_of d f) u v → v < drawn_count d f
  edge_inside f u v k = every_edge d facts f k (λ e. e.to < drawn_count d f) (facts.drawn f k).to (record { from = u; to = v })

  quiet_last : (f v : ℕ) → f < drawn_functions d → suc v ≡ drawn_count d f → called_by d f v ≡ None
  quiet_last f v k e = let q : v ≡ drawn_count d f - 1 = omega arith in rw q (facts.drawn f k).quiet

  pub drawn : (size : ℕ → ℕ) → ((f : ℕ) → f < drawn_functions d → size f ≡ pos d size f (drawn_count d f)) → Drawn d size
  drawn size sized =
      record {
        first = facts.some_function;
        some_vertex = λ f k. (facts.drawn f k).some_vertex;
        known = λ f v g k. (facts.drawn f k).known v g;
        inside = edge_inside;
        quiet = quiet_last;
        sized = sized;
      }
