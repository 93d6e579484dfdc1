-- Walks in phases: the phase in which a walk arrives tells whether g was visited since f, or whether f was visited, and the best way in phases is the shortest
-- such walk.
use Prim.Native.Nat.{ℕ, ◌<◌}
use mathlib.Core.Path.{◌≡◌, refl, sym, ap, subst, ◌∙◌}
use mathlib.Core.List.Memᴰ
use mathlib.Core.List.{List, [], ◌∷◌, reverse, reverse_aux, reverse_aux-reverse_aux-nil, Memᴰ}
use mathlib.Core.Bool.{Bool, true, false, cond}
use mathlib.Core.Logic.{⊎_elim, ◌↔◌}
use native.Mathlib.Omega.{arith}
use lib.Dec.{eqb}
use borrow.Author.Tests.{eqb-true, eqb-false, ne_eqb}
use Rattle.model.specs.declared.Problem.{Problem}
use Rattle.model.specs.Costs.{function_of}
use Rattle.model.specs.Walks.{EdgeOf, Walk, start, step}
use Rattle.model.specs.Interference.{since, occurs}
use Rattle.model.specs.Evictions.{Ahead, Shortest}
use Rattle.model.proofs.Cases.{true_not_false}
use Rattle.ways.specs.Ways.{phase_after, no_way, steps, turn, Distances, Onward, Best}
use Rattle.ways.proofs.Ahead.{ahead_more}
use Rattle.ways.proofs.Exact.{EdgesSmall, way_found}

module _ (p : Problem) (f g : ℕ) where
  -- The phase in which a walk that began in phase s arrives after h.
  abbrev pub phase : ℕ → List ℕ → ℕ
  phase s [] = s
  phase s (u ∷ h) = turn p f g (phase s h) u

  module _ (v s : ℕ) where
    -- A way on from a walk's end is a walk to v.
    along : (ws : List ℕ) (u : ℕ) (h : List ℕ) → Walk (EdgeOf p) u h → Onward p f g v (phase s h) u ws →
        (k : List ℕ) × Walk (EdgeOf p) v k × (phase s k ≡ 1) × (reverse_aux ws (u ∷ h) ≡ v ∷ k)
    along [] u h walk (e, q) = (h, subst (λ (x : ℕ). Walk (EdgeOf p) x h) e walk, q, ap (λ (x : ℕ). x ∷ h) e)
    along (w ∷ ws) u h walk (edge, on) = along ws w (u ∷ h) (step walk edge) on

    -- Every walk with a way on from its end is a way on from vertex 0.
    unwound : {u : ℕ} {h : List ℕ} (ws : List ℕ) → Walk (EdgeOf p) u h → Onward p f g v (phase s h) u ws →
        (xs : List ℕ) × (reverse_aux h (u ∷ ws) ≡ 0 ∷ xs) × Onward p f g v s 0 xs
    unwound ws start on = (ws, refl, on)
    unwound ws (step {u} {v = w} {h} walk edge) on = unwound (w ∷ ws) walk (edge, on)

    -- So the numbers tell of a way from vertex 0, where a walk arrives in phase 1.
    pub arrives_way : (d : List ℕ) → EdgesSmall p → Distances p f g v d → s < 2 → {h : List ℕ} → Walk (EdgeOf p) v h → phase s h ≡ 1 → steps d 0 s < no_way
    arrives_way d small rest low walk arrives =
        let (xs, is, on) = unwound [] walk (refl, arrives) in (way_found p f g v d small rest xs 0 s low on).0

    -- Where the good histories are those that arrive in phase 1, the best way is the shortest walk.
    pub best_shortest : (Good : List ℕ → Type 0) → ((h : List ℕ) → Walk (EdgeOf p) v h → (phase s h ≡ 1) ↔ Good h) → (ws : List ℕ) → Best p f g v s 0 ws →
        Shortest (EdgeOf p) Good v (0 ∷ ws)
    best_shortest Good good ws best =
        let (h, walk, arrives, is) = along ws 0 [] start best.goes in
        record {
          history = h;
          arrives = walk;
          good = (good h walk).0 arrives;
          is = sym (reverse_aux-reverse_aux-nil ws (0 ∷ [])) ∙ ap reverse is;
          ahead = λ k other also. before k (unwound [] other (refl, (good k other).1 also));
        }
      where
        before : (k : List ℕ) → (xs : List ℕ) × (reverse_aux k (v ∷ []) ≡ 0 ∷ xs) × Onward p f g v s 0 xs → Ahead (0 ∷ ws) (reverse (v ∷ k))
        before k (xs, is, on) = subst (Ahead (0 ∷ ws)) (sym is) (ahead_more 0 ws xs (best.ahead xs on))

  -- Begun in phase 0, a walk arrives in phase 1 exactly if g was visited since f.
  pub phase_since : (g ≡ f → ⊥) → (h : List ℕ) → (phase 0 h ≡ 1) ↔ Memᴰ g (since (function_of p) f h)
  unfolding since phase_after
  phase_since ne [] = (λ q. absurd (omega arith), λ m. absurd (Memᴰ.not-nil m))
  phase_since ne (u ∷ h) = at (eqb (function_of p u) f) (eqb (function_of p u) g) refl (phase_since ne h)
    where
      at : (a b : Bool) → eqb (function_of p u) g ≡ b → (phase 0 h ≡ 1) ↔ Memᴰ g (since (function_of p) f h) →
          (cond a 0 (cond b 1 (phase 0 h)) ≡ 1) ↔ Memᴰ g (cond a [] (function_of p u ∷ since (function_of p) f h))
      at true b q ih = (λ e. absurd (omega arith), λ m. absurd (Memᴰ.not-nil m))
      at false true q ih = (λ e. Memᴰ.head (sym (eqb-true (function_of p u) g q)), λ m. refl)
      at false false q ih = (
        λ e. Memᴰ.tail (ih.0 e),
        λ m. ⊎_elim (λ e. absurd (eqb-false (function_of p u) g q (sym e))) ih.1 (Memᴰ.cases_cons m),
      )

  -- Begun in phase 1, where no vertex is of g, a walk arrives in phase 1 exactly if f was not visited.
  pub phase_fresh : ((u w : ℕ) → EdgeOf p u w → function_of p u ≡ g → ⊥) → {v : ℕ} {h : List ℕ} → Walk (EdgeOf p) v h →
      (phase 1 h ≡ 1) ↔ (occurs (function_of p) f h ≡ false)
  unfolding occurs phase_after
  phase_fresh none start = (λ e. refl, λ e. refl)
  phase_fresh none (step {u} {v = w} {h} walk edge) = rw (ne_eqb (function_of p u) g (none u w edge)) (at (eqb (function_of p u) f) (phase_fresh none walk))
    where
      at : (a : Bool) → (phase 1 h ≡ 1) ↔ (occurs (function_of p) f h ≡ false) →
          (cond a 0 (phase 1 h) ≡ 1) ↔ (cond a true (occurs (function_of p) f h) ≡ false)
      at true ih = (λ e. absurd (omega arith), λ e. true_not_false e)
      at false ih = ih
