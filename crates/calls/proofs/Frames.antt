-- Stacks that keep each activation's own walk: their runs are the runs over states one for one, and keep the bounds alike.
use Prim.Native.Nat.{ℕ, suc}
use mathlib.Core.Path.{◌≡◌, refl, sym, ap, ap₂, subst, ◌∙◌}
use mathlib.Core.List.{List, [], ◌∷◌, map, tail}
use native.Mathlib.Omega.{arith}
use Rattle.model.specs.Graph.{loops_of}
use Rattle.model.specs.Walks.{visits, Within}
use Rattle.model.specs.Drawings.{drawn_count, graph_of}
use Rattle.model.specs.CallStack.{Frame, frame, Stack, stack, Step, call, go, back, Run, begin, then, Keeps, AllKeep}
use Rattle.calls.proofs.States.{Callers, nobody, from, State, spot, Valid, Drawn}
use Rattle.calls.proofs.States as states
use Rattle.calls.proofs.Runs.{run_valid}
use Rattle.calls.proofs.Runs as runs
use Rattle.calls.proofs.Pasts.{pasts, top, pasts_begin, pasts_call, pasts_go, pasts_back}
use Rattle.calls.proofs.Stays.{Kept, Obeys}

-- The state of a stack: its walks left out.
abbrev pub callers : List Frame → Callers
callers [] = nobody
callers (a ∷ s) = from a.function a.vertex (callers s)

abbrev pub spot_of : Stack → State
spot_of (stack a s) = spot a.function a.vertex (callers s)

-- The walks of a stack, the running activation's first.
abbrev pub walks : List Frame → List (List ℕ)
walks [] = []
walks (a ∷ s) = (a.vertex ∷ a.before) ∷ walks s

abbrev pub walks_of : Stack → List (List ℕ)
walks_of (stack a s) = walks (a ∷ s)

-- And a stack from its state and its walks.
abbrev pub frames : Callers → List (List ℕ) → List Frame
frames nobody ps = []
frames (from f v c) ps = frame f v (tail (top ps)) ∷ frames c (tail ps)

abbrev pub stack_of : State → List (List ℕ) → Stack
stack_of (spot f v c) ps = stack (frame f v (tail (top ps))) (frames c (tail ps))

unfoldable pub stacks : List State → List Stack
stacks [] = []
stacks (s ∷ h) = stack_of s (pasts (s ∷ h)) ∷ stacks h

frames_back : (s : List Frame) → frames (callers s) (walks s) ≡ s
frames_back [] = refl
frames_back (a ∷ s) = ap (λ (r : List Frame). a ∷ r) (frames_back s)

stack_back : (s : Stack) → stack_of (spot_of s) (walks_of s) ≡ s
stack_back (stack a s) = ap (stack a) (frames_back s)

module _ (d : List ℕ) where
  pub step_state : {s t : Stack} → Valid d (spot_of s) → Step d s t → states.Step d (spot_of s) (spot_of t)
  unfolding graph_of
  step_state p (call e) = states.call e
  step_state p (go e x) = states.go e x
  step_state p (back {g} {v} e x) = let last : suc v ≡ drawn_count d g = omega (arith, p.0) in states.back last x

  -- A step of the state is a step of the stack.
  abbrev Lifted : Stack → State → Type 0
  Lifted s t = (r : Stack) × Step d s r × (spot_of r ≡ t)

  lift_last : (f v : ℕ) (h : List ℕ) (t : State) → states.Step d (spot f v nobody) t → Lifted (stack (frame f v h) []) t
  lift_last f v h t (states.call {g = g} e) = (stack (frame g 0 []) (frame f v h ∷ []), call e, refl)
  lift_last f v h t (states.go {w = w} e x) = (stack (frame f w (v ∷ h)) [], go e x, refl)

  lift_inner :
      (f v : ℕ) (h : List ℕ) (g u : ℕ) (b : List ℕ) (s : List Frame) (t : State) → states.Step d (spot f v (from g u (callers s))) t →
      Lifted (stack (frame f v h) (frame g u b ∷ s)) t
  unfolding graph_of
  lift_inner f v h g u b s t (states.call {g = k} e) = (stack (frame k 0 []) (frame f v h ∷ frame g u b ∷ s), call e, refl)
  lift_inner f v h g u b s t (states.go {w = w} e x) = (stack (frame f w (v ∷ h)) (frame g u b ∷ s), go e x, refl)
  lift_inner f v h g u b s t (states.back {w = w} e x) = (stack (frame g w (u ∷ b)) s, back {g = f} {v = v} (omega arith) x, refl)

  pub lift : (s : Stack) (t : State) → states.Step d (spot_of s) t → (r : Stack) × Step d s r × (spot_of r ≡ t)
  lift (stack a []) t x = lift_last a.function a.vertex a.before t x
  lift (stack a (b ∷ s)) t x = lift_inner a.function a.vertex a.before b.function b.vertex b.before s t x

  -- Each run over states is one of stacks.
  pub record KeptRun (t : State) (k : List State) : Type 0 where
    pub now : Stack
    pub past : List Stack
    pub run : Run d now past
    pub state : spot_of now ≡ t
    pub states : map spot_of past ≡ k

  pub state_run : {t : State} {k : List State} → runs.Run d t k → KeptRun t k
  state_run runs.begin = record { now = stack (frame 0 0 []) []; past = []; run = begin; state = refl; states = refl }
  state_run (runs.then {s} {t} {h} r x) =
      let q = state_run r in
      let (now, step, state) = lift q.now t (subst (λ (z : State). states.Step d z t) (sym q.state) x) in
      record { now = now; past = q.now ∷ q.past; run = then q.run step; state = state; states = ap₂ ◌∷◌ q.state q.states }

  -- The walks that a stack keeps are those of the activations in progress,
  pub walks_are : {s : Stack} {h : List Stack} → Run d s h → pasts (map spot_of (s ∷ h)) ≡ walks_of s
  walks_are begin = pasts_begin
  walks_are (then {h = h} r (call {f} {v} {g} {h = k} {s} e)) =
      pasts_call g f v (callers s) (map spot_of h) ∙ ap (λ (r : List (List ℕ)). (0 ∷ []) ∷ r) (walks_are r)
  walks_are (then {h = h} r (go {f} {v} {w} {h = k} {s} e x)) = pasts_go f w v (callers s) (map spot_of h) k (walks s) (walks_are r)
  walks_are (then {h = h} r (back {g} {v} {f} {u} {w} {k} {h = p} {s} e x)) = pasts_back f w g v u (callers s) (map spot_of h) k p (walks s) (walks_are r)

  -- so the states tell the stacks: no two runs have the same states.
  pub told : {s : Stack} {h : List Stack} → Run d s h → stacks (map spot_of (s ∷ h)) ≡ s ∷ h
  unfolding stacks
  told begin = ap₂ ◌∷◌ (ap (stack_of (spot 0 0 nobody)) (walks_are begin)) refl
  told (then {s} {t} {h} r x) = ap₂ ◌∷◌ (ap (stack_of (spot_of t)) (walks_are (then r x)) ∙ stack_back t) (told r)

  pub one_run : {s t : Stack} {h k : List Stack} → Run d s h → Run d t k → map spot_of (s ∷ h) ≡ map spot_of (t ∷ k) → s ∷ h ≡ t ∷ k
  one_run r q e = sym (told r) ∙ ap stacks e ∙ told q

  -- A run whose activations keep their bounds obeys them,
  keeps_kept : (s : Stack) (h : List Stack) → Run d s h → Keeps d s → Kept d (spot_of s) (map spot_of h)
  unfolding Within
  keeps_kept (stack a s) h r w = λ l i e. omega (arith, w.0 l i e, ap (λ (z : List (List ℕ)). visits l (top z)) (walks_are r))

  pub obeys : {s : Stack} {h : List Stack} → Run d s h → AllKeep d (s ∷ h) → Obeys d (map spot_of (s ∷ h))
  unfolding AllKeep
  obeys begin a = (keeps_kept (stack (frame 0 0 []) []) [] begin a.0, tt)
  obeys (then {s} {t} {h} r x) a = (keeps_kept t (s ∷ h) (then r x) a.0, obeys r a.1)

  -- and the other way: all activations in progress do.
  abbrev Whole : List Frame → Type 0
  Whole [] = Unit {0}
  Whole (a ∷ s) = Within (loops_of (graph_of d a.function)) (a.vertex ∷ a.before) × Whole s

  abbrev WholeOf : Stack → Type 0
  WholeOf (stack a s) = Whole (a ∷ s)

  latest :
      (a : Frame) (s : List Frame) (h : List Stack) → Run d (stack a s) h → Kept d (spot_of (stack a s)) (map spot_of h) →
      Within (loops_of (graph_of d a.function)) a.before → Within (loops_of (graph_of d a.function)) (a.vertex ∷ a.before)
  unfolding Within
  latest a s h r q w = ((λ l i e. omega (arith, q l i e, ap (λ (z : List (List ℕ)). visits l (top z)) (walks_are r))), w)

  whole : {s : Stack} {h : List Stack} → Run d s h → Obeys d (map spot_of (s ∷ h)) → WholeOf s
  unfolding Within
  whole begin o = (latest (frame 0 0 []) [] [] begin o.0 tt, tt)
  whole (then {h = h} r (call {f} {v} {g} {h = k} {s} e)) o =
      (latest (frame g 0 []) (frame f v k ∷ s) (stack (frame f v k) s ∷ h) (then r (call e)) o.0 tt, whole r o.1)
  whole (then {h = h} r (go {f} {v} {w} {h = k} {s} e x)) o =
      let p = whole r o.1 in
      (latest (frame f w (v ∷ k)) s (stack (frame f v k) s ∷ h) (then r (go e x)) o.0 p.0, p.1)
  whole (then {h = h} r (back {g} {v} {f} {u} {w} {k} {h = b} {s} e x)) o =
      let p = whole r o.1 in
      (latest (frame f w (u ∷ b)) s (stack (frame g v k) (frame f u b ∷ s) ∷ h) (then r (back e x)) o.0 p.1.0, p.1.1)

  running_keeps : (s : Stack) → WholeOf s → Keeps d s
  running_keeps (stack a s) p = p.0

  pub all_keep : {s : Stack} {h : List Stack} → Run d s h → Obeys d (map spot_of (s ∷ h)) → AllKeep d (s ∷ h)
  unfolding AllKeep
  all_keep begin o = (running_keeps (stack (frame 0 0 []) []) (whole begin o), tt)
  all_keep (then {s} {t} {h} r x) o = (running_keeps t (whole (then r x) o), all_keep r o.1)

module _ (d : List ℕ) (size : ℕ → ℕ) (D : Drawn d size) where
  pub run_state : {s : Stack} {h : List Stack} → Run d s h → runs.Run d (spot_of s) (map spot_of h)
  run_state begin = runs.begin
  run_state (then r x) = let q = run_state r in runs.then q (step_state d (run_valid d size D q) x)
