-- Runs over the states of the call stack and walks of the one problem match one for one.
use Prim.Native.Nat.{ℕ, zero, suc, ◌+◌, ◌-◌, ◌≤◌, ◌<◌}
use mathlib.Core.Path.{◌≡◌, refl, ap, ap₂}
use mathlib.Core.List.{List, [], ◌∷◌, map}
use native.Mathlib.Omega.{arith}
use Rattle.model.specs.Walks.{Walk, start, step}
use Rattle.model.specs.Drawings.{drawn_count}
use Rattle.calls.proofs.States.{Callers, nobody, from, State, spot, Fits, Valid, Step, call, go, back, at, pos, base, number, Drawn}
use Rattle.calls.proofs.Number.{fits_known, pos_some, number_first, at_zero, at_number, spotted}

-- A run over the states: the state now, and the states before it, the latest first.
pub data Run (d : List ℕ) : State → List State → Type 0 where
  begin : Run d (spot 0 0 nobody) []
  then : {s t : State} {h : List State} → Run d s h → Step d s t → Run d t (s ∷ h)

-- An edge of the one problem, which has n vertices.
abbrev pub Joined : List ℕ → ℕ → ℕ → ℕ → Type 0
Joined d n i j = (i < n) × (j < n) × Step d (at d i) (at d j)

module _ (d : List ℕ) (size : ℕ → ℕ) where
  pos_grows : (f u k : ℕ) → pos d size f u + k ≤ pos d size f (u + k)
  unfolding pos
  pos_grows f u zero = let e : u + 0 ≡ u = omega arith in rw e (omega arith)
  pos_grows f u (suc k) = let e : u + suc k ≡ suc (u + k) = omega arith in rw e (omega (arith, pos_grows f u k))

  pub pos_up : (f u v : ℕ) → u ≤ v → pos d size f u ≤ pos d size f v
  pos_up f u v l = let e : u + (v - u) ≡ v = omega arith in omega (arith, rw e at (pos_grows f u (v - u)))

  pub pos_less : (f v : ℕ) → pos d size f v < pos d size f (suc v)
  unfolding pos
  pos_less f v = omega arith

module _ (d : List ℕ) (size : ℕ → ℕ) (D : Drawn d size) where
  -- A vertex of a drawn graph, with the copy that it calls, lies in each copy of that graph.
  pub pos_inside : (f v : ℕ) (c : Callers) → Fits d f c → v < drawn_count d f → pos d size f (suc v) ≤ size f
  pos_inside f v c fits l = omega (arith, pos_up d size f (suc v) (drawn_count d f) l, D.sized f (fits_known d size D f c fits))

  -- Every copy lies in the whole.
  pub room : (f : ℕ) (c : Callers) → Fits d f c → base d size c + size f ≤ size 0
  unfolding base
  room f nobody e = omega (arith, ap size e)
  room f (from g u c) e = omega (arith, room g c e.2, pos_some d size g u f e.0, pos_inside g u c e.2 e.1)

  pub below : (s : State) → Valid d s → number d size s < size 0
  unfolding number
  below (spot f v c) p = omega (arith, room f c p.1, pos_less d size f v, pos_inside f v c p.1 p.0)

  pub keeps : (s t : State) → Step d s t → Valid d s → Valid d t
  keeps s t (call {f} {v} {g} {c} e) p = (D.some_vertex g (D.known f v g (fits_known d size D f c p.1) p.0 e), (e, p.0, p.1))
  keeps s t (go {f} {v} {w} {c} e x) p = (D.inside f v w (fits_known d size D f c p.1) x, p.1)
  keeps s t (back {g} {v} {f} {u} {w} {c} e x) p = (D.inside f u w (fits_known d size D f c p.1.2) x, p.1.2)

  pub run_valid : {s : State} {h : List State} → Run d s h → Valid d s
  run_valid begin = (D.some_vertex 0 D.first, refl)
  run_valid (then {s} {t} r x) = keeps s t x (run_valid r)

  -- Each run is a walk.
  pub joined : (s t : State) → Valid d s → Step d s t → Joined d (size 0) (number d size s) (number d size t)
  joined s t p x = let q = keeps s t x p in (below s p, below t q, rw (at_number d size D s p, at_number d size D t q) x)

  pub to_walk : {s : State} {h : List State} → Run d s h → Walk (Joined d (size 0)) (number d size s) (map (number d size) h)
  to_walk begin = rw (number_first d size) start
  to_walk (then {s} {t} r x) = step (to_walk r) (joined s t (run_valid r) x)

  -- Each walk is a run.
  pub to_run : {i : ℕ} {h : List ℕ} → Walk (Joined d (size 0)) i h → Run d (at d i) (map (at d) h)
  to_run start = rw (at_zero d) begin
  to_run (step t e) = then (to_run t) e.2

  -- There and back.
  pub run_walk_run : {s : State} {h : List State} → Run d s h → map (at d) (map (number d size) (s ∷ h)) ≡ s ∷ h
  run_walk_run begin = rw (number_first d size, at_zero d)
  run_walk_run (then {s} {t} {h} r x) = ap₂ ◌∷◌ (at_number d size D t (keeps s t x (run_valid r))) (run_walk_run r)

  pub walk_run_walk : {i : ℕ} {h : List ℕ} → Walk (Joined d (size 0)) i h → map (number d size) (map (at d) (i ∷ h)) ≡ i ∷ h
  walk_run_walk start = rw (at_zero d, number_first d size)
  walk_run_walk (step {u} {v} t e) = ap₂ ◌∷◌ (spotted d size D v e.1).counted (walk_run_walk t)
