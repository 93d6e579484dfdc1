-- Wherever Bound and Run both give their results for one problem and one layout, Run's cycles are at most Bound's bound.
use Prim.Native.Nat.{ℕ, ◌≤◌}
use Rattle.std.specs.Prelude.{Err, Ok}
use Rattle.model.specs.Refusals.{Verdict}
use mathlib.Core.Path.{◌≡◌, refl, ap, ◌∙◌}
use mathlib.Core.List.{List, [], ◌∷◌, reverse}
use mathlib.Core.Bool.{Bool, true, false, cond}
use native.Mathlib.Omega.{arith}
use lib.ListN.{length}
use lib.Dec.{ltb}
use Rattle.model.specs.declared.Refusal.TheVariants.{WalkTooLong}
use Rattle.model.specs.declared.Problem.{Problem}
use Rattle.model.specs.declared.Bound.{Bound}
use Rattle.model.specs.declared.Run.{Run}
use Rattle.model.specs.Walks.{last_vertex}
use Rattle.model.specs.Zero.{cycles as cycles_of}
use Rattle.model.specs.Runs.{cycles, loads}
use Rattle.model.specs.Graph.{and_then}
use Rattle.model.specs.Verdicts.{walk_limit, judge_bound, judge_walk, judge_run}
use Rattle.model.specs.Results.{BoundSays, run_after, run_walk}
use Rattle.model.proofs.Answers.{refused_not_accepted}
use Rattle.walk.proofs.Lawful.{judged_lawful}

module _ (p : Problem) (layout walk : List ℕ) where
  -- A walk that Run runs was judged good.
  pub entries_good : judge_run p layout walk ≡ Ok tt → judge_walk p [] 0 walk ≡ Ok tt
  unfolding judge_run
  entries_good e = at (judge_bound p layout) (ltb walk_limit (length walk)) e
    where
      at : (v : Verdict) (t : Bool) → and_then v (cond t (Err (WalkTooLong walk_limit)) (judge_walk p [] 0 walk)) ≡ Ok tt → judge_walk p [] 0 walk ≡ Ok tt
      at (Ok tt) true q = refused_not_accepted q
      at (Ok tt) false q = q
      at (Err f) true q = refused_not_accepted q
      at (Err f) false q = refused_not_accepted q

  -- What a result tells: the walk was judged good, and its cycles are those of the run.
  pub ran_good : (v : Verdict) (r : Run) → run_after v p layout walk ≡ Ok r → (v ≡ Ok tt) × (r.cycles.0 ≡ cycles p layout (reverse walk))
  ran_good (Ok tt) r e =
      let same : r ≡ record { cycles = cycles_of (cycles p layout (reverse walk)); loads = loads p layout (reverse walk) } = cc in
      (refl, ap (λ (x : Run). x.cycles.0) same)
  ran_good (Err f) r e = let q : ◌≡◌ {A = ℕ} 0 1 = cc in let z : ⊥ = omega arith in elim z [ ]

  pub run_within_bound : (b : Bound) → BoundSays p layout (Ok b) → (r : Run) → run_walk p layout walk ≡ Ok r → r.cycles.0 ≤ b.bound.0
  unfolding run_walk
  run_within_bound b says r e =
      let good = ran_good (judge_run p layout walk) r e in
      let (h, whole, lawful) = judged_lawful p walk (entries_good good.0) in
      let counted : r.cycles.0 ≡ cycles p layout (last_vertex p ∷ h) = good.1 ∙ ap (cycles p layout) whole in
      omega (arith, says.1.covers h lawful)
