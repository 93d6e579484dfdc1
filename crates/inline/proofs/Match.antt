-- **Inline's claims** (2/14): runs of a drawn program with a call stack match the walks of its one problem one for one, take the same cycles, and keep
-- within its bound; and that problem passes document 01's checks.
use Prim.Native.Nat.{ℕ, suc, ◌≤◌}
use Rattle.std.specs.Prelude.{Err, Ok}
use Rattle.model.specs.Refusals.{Verdict}
use mathlib.Core.Path.{◌≡◌, refl, ap, subst, ◌∙◌}
use mathlib.Core.List.{List, [], ◌∷◌, map}
use mathlib.Core.Logic.{◌↔◌}
use native.Mathlib.Omega.{arith}
use Rattle.model.specs.declared.Bound.{Bound}
use Rattle.model.specs.declared.Problem.{Problem}
use Rattle.model.specs.Graph.{loops_of}
use Rattle.model.specs.Costs.{function_of, own_cost}
use Rattle.model.specs.Walks.{EdgeOf, last_vertex, Walk, start, step, Within, Lawful}
use Rattle.model.specs.Runs.{cycles}
use Rattle.model.specs.Results.{BoundSays}
use Rattle.model.specs.Verdicts.{judge_problem}
use Rattle.model.specs.Drawings.{graph_of}
use Rattle.model.specs.Inlined.{inlined_problem, judge_drawing, inline_verdict, inline_drawing}
use Rattle.model.specs.CallStack.{frame, Stack, stack, Run, AllKeep, LawfulRun, running, own_of, stack_cycles}
use Rattle.calls.proofs.States.{Drawn}
use Rattle.calls.proofs.Stretch.{Ring}
use Rattle.calls.proofs.Stays.{within_all, all_within}
use Rattle.calls.proofs.Stacks.{number_of, stack_walk, walk_stack, one_stack_run, stack_end, end_stack, keep_within, within_keep}
use Rattle.calls.proofs.Cycles as labels
use Rattle.calls.proofs.Cycles.{same_function, same_own}
use Rattle.calls.proofs.Sizes.{size}
use Rattle.inlined.proofs.Accepted.{Inlines, inlines}
use Rattle.inlined.proofs.Accepted as inlined
use Rattle.inlined.proofs.Steps.{edge_step, step_edge, loop_is_ring, ring_is_loop, last_is, labelled}

-- The vertex of the one problem that a stack is at.
abbrev pub vertex_of : List ℕ → Stack → ℕ
vertex_of d s = number_of d (size d) s

-- A stack at function 0's last vertex with no caller.
abbrev pub AtEnd : List ℕ → Stack → Type 0
AtEnd d s = (walk : List ℕ) × (s ≡ stack (frame 0 (last_vertex (graph_of d 0)) walk) [])

-- Runs of the drawing d and walks of the problem p, where a stack is at the vertex `number` of it.
pub record RunsMatch (d : List ℕ) (p : Problem) (number : Stack → ℕ) : Type 0 where
  -- A run's numbers are a walk, every walk is the numbers of a run, and no two runs have the same numbers.
  pub walk : {s : Stack} {h : List Stack} → Run d s h → Walk (EdgeOf p) (number s) (map number h)
  pub run : {v : ℕ} {h : List ℕ} → Walk (EdgeOf p) v h → (s : Stack) × (past : List Stack) × Run d s past × (map number (s ∷ past) ≡ v ∷ h)
  pub one : {s t : Stack} {h k : List Stack} → Run d s h → Run d t k → map number (s ∷ h) ≡ map number (t ∷ k) → s ∷ h ≡ t ∷ k
  -- The vertex has the visit's function and own cost.
  pub function : {s : Stack} {h : List Stack} → Run d s h → function_of p (number s) ≡ running s
  pub own : {s : Stack} {h : List Stack} → Run d s h → own_cost p (number s) ≡ own_of d s
  -- A run is at its end exactly if its walk is at the last vertex, and keeps its bounds, each activation its own, exactly if the walk does.
  pub end : {s : Stack} {h : List Stack} → Run d s h → (number s ≡ last_vertex p) ↔ AtEnd d s
  pub keeps : {s : Stack} {h : List Stack} → Run d s h → AllKeep d (s ∷ h) ↔ Within (loops_of p) (map number (s ∷ h))

-- A walk along some edges is one along others that are there too.
along_others : {E G : ℕ → ℕ → Type 0} → ((u v : ℕ) → E u v → G u v) → {v : ℕ} {h : List ℕ} → Walk E v h → Walk G v h
along_others more start = start
along_others more (step {u} {v} w e) = step (along_others more w) (more u v e)

module _ (d : List ℕ) (I : Inlines d) where
  abbrev D : Drawn d (size d)
  D = I.drawn

  matched : RunsMatch d (inlined_problem d) (vertex_of d)
  matched =
      record {
        walk = λ r. along_others (step_edge d I) (stack_walk d (size d) D r);
        run = λ w. let q = walk_stack d (size d) D (along_others (edge_step d I) w) in (q.now, q.past, q.run, q.numbers);
        one = λ r q. one_stack_run d (size d) D r q;
        function = λ r. same_function d (size d) D (inlined_problem d) (labelled d I) r;
        own = λ r. same_own d (size d) D (inlined_problem d) (labelled d I) r;
        end = λ r. (λ e. stack_end d (size d) D r (ap suc e ∙ last_is d I), λ (walk, e). at_end_lem walk _ e);
        keeps = λ r. (
          λ k. all_within (loops_of (inlined_problem d)) (Ring d (size d)) (loop_is_ring d I) _ (keep_within d (size d) D r k),
          λ w. within_keep d (size d) D r (within_all (loops_of (inlined_problem d)) (Ring d (size d)) (ring_is_loop d I) _ w),
        );
      }
    where
      at_end_lem : (walk : List ℕ) (s : Stack) → s ≡ stack (frame 0 (last_vertex (graph_of d 0)) walk) [] → vertex_of d s ≡ last_vertex (inlined_problem d)
      at_end_lem walk s e = ap (vertex_of d) e ∙ (let q : vertex_of d (stack (frame 0 (last_vertex (graph_of d 0)) walk) []) ≡ last_vertex (inlined_problem d) = omega (arith, end_stack d (size d) D walk, last_is d I) in q)

-- An accepted drawing, and its problem.
accepted_is : (d : List ℕ) (q : Problem) → inline_drawing d ≡ Ok q → (judge_drawing d ≡ Ok tt) × (inlined_problem d ≡ q)
unfolding inline_drawing
accepted_is d q e = at (judge_drawing d) refl e
  where
    at : (v : Verdict) → judge_drawing d ≡ v → inline_verdict v (inlined_problem d) ≡ Ok q → (judge_drawing d ≡ Ok tt) × (inlined_problem d ≡ q)
    at (Ok tt) j x = (j, cc)
    at (Err f) j x = let z : ◌≡◌ {A = ℕ} 0 1 = cc in absurd (omega arith)

module _ (d : List ℕ) (q : Problem) (accepted : inline_drawing d ≡ Ok q) where
  of_one : (P : Problem → Type 0) → (Inlines d → P (inlined_problem d)) → P q
  of_one P f = let (good, is) = accepted_is d q accepted in subst P is (f (inlines d good))

  -- Runs with a call stack match the walks of the one problem one for one.
  pub runs_match : RunsMatch d q (vertex_of d)
  runs_match = of_one (λ x. RunsMatch d x (vertex_of d)) (matched d)

  -- A run takes as many cycles as its walk, for every layout.
  pub same_cycles : (layout : List ℕ) {s : Stack} {h : List Stack} → Run d s h → stack_cycles d layout (s ∷ h) ≡ cycles q layout (map (vertex_of d) (s ∷ h))
  same_cycles layout {s} {h} r = of_one (λ x. stack_cycles d layout (s ∷ h) ≡ cycles x layout (map (vertex_of d) (s ∷ h))) (λ I. labels.same_cycles d (size d) I.drawn (inlined_problem d) (labelled d I) layout r)

  -- So the bound holds for the drawn program: no lawful run of it, of any length, takes more cycles.
  pub drawn_within_bound :
      (layout : List ℕ) (b : Bound) → BoundSays q layout (Ok b) →
      (walk : List ℕ) (h : List Stack) → LawfulRun d walk h → stack_cycles d layout (stack (frame 0 (last_vertex (graph_of d 0)) walk) [] ∷ h) ≤ b.bound.0
  drawn_within_bound layout b says walk h lawful =
      let r = lawful.run in
      let s = stack (frame 0 (last_vertex (graph_of d 0)) walk) [] in
      let at_last_lem : vertex_of d s ≡ last_vertex q = (runs_match.end r).1 (walk, refl) in
      let kept : Lawful q (map (vertex_of d) h) = record {
        walk = subst (λ (v : ℕ). Walk (EdgeOf q) v (map (vertex_of d) h)) at_last_lem (runs_match.walk r);
        within = subst (λ (v : ℕ). Within (loops_of q) (v ∷ map (vertex_of d) h)) at_last_lem ((runs_match.keeps r).0 lawful.keeps);
      } in
      let covered = says.1.covers (map (vertex_of d) h) kept in
      omega (arith, same_cycles layout r ∙ ap (λ (v : ℕ). cycles q layout (v ∷ map (vertex_of d) h)) at_last_lem, covered)

  -- No operation on the one problem answers 3 to 9.
  pub inlined_accepted : judge_problem q ≡ Ok tt
  inlined_accepted = of_one (λ x. judge_problem x ≡ Ok tt) (inlined.inlined_accepted d)
