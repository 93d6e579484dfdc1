-- Runs with a call stack and walks of the one problem: one for one, with the same visits, the same end and the same bounds.
use Prim.Native.Nat.{ℕ, suc}
use mathlib.Core.Path.{◌≡◌, sym, ap, ap₂, subst, ◌∙◌}
use mathlib.Core.List.{List, [], ◌∷◌, map, map-map}
use native.Mathlib.Omega.{arith}
use Rattle.model.specs.Walks.{Walk, last_vertex}
use Rattle.model.specs.Drawings.{graph_of}
use Rattle.model.specs.CallStack.{frame, Stack, stack, Run, AllKeep}
use Rattle.calls.proofs.States.{nobody, spot, Valid, at, number, Drawn}
use Rattle.calls.proofs.Number.{at_number}
use Rattle.calls.proofs.Runs.{Joined, to_walk, to_run, run_valid, run_walk_run, walk_run_walk}
use Rattle.calls.proofs.Stretch.{Ring}
use Rattle.calls.proofs.Stays.{WithinAll, lawful_walk, lawful_run}
use Rattle.calls.proofs.Frames.{spot_of, state_run, run_state, one_run, obeys, all_keep}
use Rattle.calls.proofs.Costs.{end_number, end_state}

-- The vertex of the one problem that a stack is at.
abbrev pub number_of : List ℕ → (ℕ → ℕ) → Stack → ℕ
number_of d size s = number d size (spot_of s)

-- A stack at function 0's last vertex with no caller.
last_stack : (v : ℕ) (s : Stack) → spot_of s ≡ spot 0 v nobody → (walk : List ℕ) × (s ≡ stack (frame 0 v walk) [])
last_stack v (stack a []) e =
    let f : a.function ≡ 0 = cc in
    let w : a.vertex ≡ v = cc in
    (a.before, ap₂ (λ (x y : ℕ). stack (frame x y a.before) []) f w)
last_stack v (stack a (b ∷ s)) e = let z : ◌≡◌ {A = ℕ} 0 1 = cc in let w : ⊥ = omega arith in elim w [ ]

module _ (d : List ℕ) (size : ℕ → ℕ) (D : Drawn d size) where
  pub stack_valid : {s : Stack} {h : List Stack} → Run d s h → Valid d (spot_of s)
  stack_valid r = run_valid d size D (run_state d size D r)

  pub stack_at : {s : Stack} {h : List Stack} → Run d s h → at d (number_of d size s) ≡ spot_of s
  stack_at {s} r = at_number d size D (spot_of s) (stack_valid r)

  -- Each run is a walk,
  pub stack_walk : {s : Stack} {h : List Stack} → Run d s h → Walk (Joined d (size 0)) (number_of d size s) (map (number_of d size) h)
  stack_walk {h = h} r = rw (← map-map (number d size) spot_of h) (to_walk d size D (run_state d size D r))

  -- each walk is a run,
  pub record Walked (i : ℕ) (walk : List ℕ) : Type 0 where
    pub now : Stack
    pub past : List Stack
    pub run : Run d now past
    pub numbers : map (number_of d size) (now ∷ past) ≡ i ∷ walk

  pub walk_stack : {i : ℕ} {h : List ℕ} → Walk (Joined d (size 0)) i h → Walked i h
  walk_stack {i} {h} w =
      let r = state_run d (to_run d size D w) in
      record {
        now = r.now;
        past = r.past;
        run = r.run;
        numbers =
            sym (map-map (number d size) spot_of (r.now ∷ r.past))
            ∙ ap (map (number d size)) (ap₂ ◌∷◌ r.state r.states)
            ∙ walk_run_walk d size D w;
      }

  -- and no two runs have the same numbers.
  states_told : {s : Stack} {h : List Stack} → Run d s h → map (at d) (map (number_of d size) (s ∷ h)) ≡ map spot_of (s ∷ h)
  states_told {s} {h} r = ap (map (at d)) (sym (map-map (number d size) spot_of (s ∷ h))) ∙ run_walk_run d size D (run_state d size D r)

  pub one_stack_run :
      {s t : Stack} {h k : List Stack} → Run d s h → Run d t k → map (number_of d size) (s ∷ h) ≡ map (number_of d size) (t ∷ k) → s ∷ h ≡ t ∷ k
  one_stack_run r q e = one_run d r q (sym (states_told r) ∙ ap (map (at d)) e ∙ states_told q)

  -- A run is at its end exactly if its walk is.
  pub stack_end : {s : Stack} {h : List Stack} → Run d s h → suc (number_of d size s) ≡ size 0 →
      (walk : List ℕ) × (s ≡ stack (frame 0 (last_vertex (graph_of d 0)) walk) [])
  stack_end {s} r e = last_stack (last_vertex (graph_of d 0)) s (end_state d size D (spot_of s) (stack_valid r) e)

  pub end_stack : (walk : List ℕ) → suc (number_of d size (stack (frame 0 (last_vertex (graph_of d 0)) walk) [])) ≡ size 0
  end_stack walk = end_number d size D

  -- A run's activations keep their bounds exactly if its walk does.
  pub keep_within : {s : Stack} {h : List Stack} → Run d s h → AllKeep d (s ∷ h) → WithinAll (Ring d size) (map (number_of d size) (s ∷ h))
  keep_within {s} {h} r k =
      subst (WithinAll (Ring d size)) (map-map (number d size) spot_of (s ∷ h)) (lawful_walk d size D (run_state d size D r) (obeys d r k))

  pub within_keep : {s : Stack} {h : List Stack} → Run d s h → WithinAll (Ring d size) (map (number_of d size) (s ∷ h)) → AllKeep d (s ∷ h)
  within_keep {s} {h} r w =
      all_keep d r (lawful_run d size D (run_state d size D r) (subst (WithinAll (Ring d size)) (sym (map-map (number d size) spot_of (s ∷ h))) w))
