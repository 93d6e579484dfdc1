-- Sums over the numbers below n, compared term by term.
use Prim.Native.Nat.{ℕ, zero, suc, ◌+◌, ◌≤◌, ◌<◌}
use mathlib.Core.Path.{◌≡◌}
use native.Mathlib.Omega.{arith}
use native.Mathlib.Decide.{ℕ_discrete}
use Rattle.model.specs.Costs.{total}

module _ (s t : ℕ → ℕ) (le : (i : ℕ) → s i ≤ t i) where
  pub total_mono : (n : ℕ) → total n s ≤ total n t
  unfolding total
  total_mono zero = omega arith
  total_mono (suc n) = omega (arith, total_mono n, le n)

  -- One term, below n, is larger by d: so is the sum.
  pub total_gain : (k d : ℕ) → s k + d ≤ t k → (n : ℕ) → k < n → total n s + d ≤ total n t
  unfolding total
  total_gain k d gain zero h = omega arith
  total_gain k d gain (suc n) h = at (ℕ_discrete k n) (λ l. total_gain k d gain n l)
    where
      at : Dec (k ≡ n) → (k < n → total n s + d ≤ total n t) → total n s + s n + d ≤ total n t + t n
      at (yes e) ih = let here : s n + d ≤ t n = rw e at gain in omega (arith, total_mono n)
      at (no ne) ih = omega (arith, ih (omega (arith, ne)), le n)
