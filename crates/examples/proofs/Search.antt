-- The search over walks: one that it finds is a walk, and what it says of all of them holds of every walk.
use Prim.Native.Nat.{ℕ, zero, suc}
use mathlib.Core.Path.{◌≡◌, refl, sym}
use mathlib.Core.List.{List, [], ◌∷◌, Memᴰ}
use mathlib.Core.Bool.{Bool, true, false, cond, ◌&&◌}
use lib.Dec.{eqb}
use borrow.Author.Tests.{eqb-true, eq-eqb, not-true}
use Rattle.model.specs.declared.Edge.{Edge}
use Rattle.model.specs.declared.Problem.{Problem}
use Rattle.model.specs.Graph.{edges_of}
use Rattle.model.specs.Walks.{EdgeOf, Walk, start, step}
use Rattle.model.proofs.Cases.{by_bool, and_left, and_right, true_not_false}
use Rattle.examples.specs.Tests.{leads, some_from, every_from}
use Rattle.examples.proofs.Passed.{all_at, any_at}

-- At no vertex of the history the walk had to stop.
abbrev pub Free : (List ℕ → ℕ → Bool) → List ℕ → Type 0
Free stop [] = Unit {0}
Free stop (v ∷ h) = (stop h v ≡ false) × Free stop h

pub record Found (p : Problem) (stop : List ℕ → ℕ → Bool) (test : ℕ → List ℕ → Bool) : Type 0 where
  pub at : ℕ
  pub before : List ℕ
  pub walk : Walk (EdgeOf p) at before
  pub free : Free stop (at ∷ before)
  pub passes : test at before ≡ true

edge_from : (p : Problem) (v : ℕ) (e : Edge) → Memᴰ e (edges_of p) → e.from ≡ v → EdgeOf p v e.to
edge_from p v e m q = rw (← q) m

module _ (p : Problem) (stop : List ℕ → ℕ → Bool) (test : ℕ → List ℕ → Bool) where
  pub found : (n v : ℕ) (h : List ℕ) → some_from p stop test n v h ≡ true → Walk (EdgeOf p) v h → Free stop (v ∷ h) → Found p stop test
  unfolding some_from
  found zero v h e walk free = record { at = v; before = h; walk = walk; free = free; passes = e }
  found (suc n) v h e walk free =
      by_bool (test v h)
      (λ q. record { at = v; before = h; walk = walk; free = free; passes = q })
      (λ q.
      let (x, m, t) = any_at (λ x. leads stop v h x && some_from p stop test n x.to (v ∷ h)) (edges_of p) (rw q at e) in
      let on = and_left (leads stop v h x) _ t in
      found n x.to (v ∷ h) (and_right (leads stop v h x) _ t)
      (step walk (edge_from p v x m (eqb-true x.from v (and_left (eqb x.from v) _ on))))
      (not-true (stop (v ∷ h) x.to) (and_right (eqb x.from v) _ on), free))

  -- A search that goes through u goes on through each edge from u.
  further : (n u v : ℕ) (h : List ℕ) → every_from p stop test n u h ≡ true → EdgeOf p u v → stop (u ∷ h) v ≡ false →
      (m : ℕ) × (every_from p stop test m v (u ∷ h) ≡ true)
  unfolding every_from
  further zero u v h e edge free = true_not_false (sym e)
  further (suc n) u v h e edge free =
      let t = all_at (λ x. cond (leads stop u h x) (every_from p stop test n x.to (u ∷ h)) true) (edges_of p) (and_right (test u h) _ e) edge in
      (n, rw (eq-eqb u u refl, free) at t)

  reaches : (n : ℕ) → every_from p stop test n 0 [] ≡ true → {v : ℕ} {h : List ℕ} → Walk (EdgeOf p) v h → Free stop (v ∷ h) →
      (m : ℕ) × (every_from p stop test m v h ≡ true)
  reaches n e start free = (n, e)
  reaches n e (step {u} {v} {h} walk edge) free = let (m, q) = reaches n e walk free.1 in further m u v h q edge free.0

  here : (n v : ℕ) (h : List ℕ) → every_from p stop test n v h ≡ true → test v h ≡ true
  unfolding every_from
  here zero v h e = true_not_false (sym e)
  here (suc n) v h e = and_left (test v h) _ e

  pub every : (n : ℕ) → every_from p stop test n 0 [] ≡ true → {v : ℕ} {h : List ℕ} → Walk (EdgeOf p) v h → Free stop (v ∷ h) → test v h ≡ true
  every n e {v} {h} walk free = let (m, q) = reaches n e walk free in here m v h q
