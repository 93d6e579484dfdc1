-- Laws of the greatest value over the edges to a vertex.
use Prim.Native.Nat.{ℕ, zero, suc, ◌≤◌, ◌<◌, max}
use mathlib.Core.Path.{◌≡◌, refl}
use mathlib.Core.Bool.{Bool, true, false, ◌&&◌, and-eq-true_iff}
use mathlib.Core.Logic.{◌⊎◌, inl, inr}
use native.Mathlib.Omega.{arith}
use lib.Dec.{eqb}
use borrow.Author.Tests.{eqb-true, eqb-false, eq-eqb}
use Rattle.model.proofs.Cases.{by_bool, by_order}
use Rattle.greatest.specs.Numbers.{best}

module _ (a b : ℕ → ℕ) (p : ℕ → Bool) (f : ℕ → ℕ) (v : ℕ) where
  -- No edge that passes the test has more.
  pub best_at : (m i : ℕ) → i < m → b i ≡ v → p (a i) ≡ true → f (a i) ≤ best a b p f v m
  unfolding best
  best_at zero i s e q = absurd (omega arith)
  best_at (suc m) i s e q =
      by_bool (eqb i m)
      (λ x. let y = eqb-true i m x in rw (← y, eq-eqb (b i) v e, q) (omega arith))
      (λ x. omega (arith, best_at m i (omega (arith, eqb-false i m x)) e q))

  -- Some edge that passes the test has as much, unless it is 0.
  abbrev Reached : ℕ → ℕ → Type 0
  Reached m x = (x ≡ 0) ⊎ ((i : ℕ) × (i < m) × (b i ≡ v) × (p (a i) ≡ true) × (x ≤ f (a i)))

  weaken : (m x y : ℕ) → y ≡ x → Reached m x → Reached (suc m) y
  weaken m x y h (inl z) = inl (omega arith)
  weaken m x y h (inr (i, s, e, q, l)) = inr (i, omega arith, e, q, omega arith)

  pub best_reached : (m : ℕ) → (best a b p f v m ≡ 0) ⊎ ((i : ℕ) × (i < m) × (b i ≡ v) × (p (a i) ≡ true) × (best a b p f v m ≤ f (a i)))
  unfolding best
  best_reached zero = inl refl
  best_reached (suc m) = by_bool (eqb (b m) v && p (a m)) (passing (best_reached m)) (other (best_reached m))
    where
      passing : Reached m (best a b p f v m) → eqb (b m) v && p (a m) ≡ true → Reached (suc m) (best a b p f v (suc m))
      passing r t =
          let y = (and-eq-true_iff (eqb (b m) v) (p (a m))).0 t in
          by_order (f (a m)) (best a b p f v m)
          (λ le. rw t (weaken m (best a b p f v m) (max (best a b p f v m) (f (a m))) (omega arith) r))
          (λ le. rw t (inr (m, omega arith, eqb-true (b m) v y.0, y.1, omega arith)))

      other : Reached m (best a b p f v m) → eqb (b m) v && p (a m) ≡ false → Reached (suc m) (best a b p f v (suc m))
      other r t = rw t (weaken m (best a b p f v m) (max (best a b p f v m) 0) (omega arith) r)

  -- What is not read does not matter.
  pub best_local : (g : ℕ → ℕ) (m : ℕ) → ((i : ℕ) → i < m → b i ≡ v → p (a i) ≡ true → f (a i) ≡ g (a i)) → best a b p f v m ≡ best a b p g v m
  unfolding best
  best_local g zero h = refl
  best_local g (suc m) h =
      by_bool (eqb (b m) v && p (a m))
      (λ t.
      let y = (and-eq-true_iff (eqb (b m) v) (p (a m))).0 t in
      rw (t, best_local g m (λ i s. h i (omega arith)), h m (omega arith) (eqb-true (b m) v y.0) y.1))
      (λ t. rw (t, best_local g m (λ i s. h i (omega arith))))
