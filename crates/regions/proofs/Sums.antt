-- Laws of sums and greatest values over the numbers below n: what they stay below, and the turns of a loop that adds one up.
use Prim.Native.Nat.{ℕ, zero, suc, ◌+◌, ◌*◌, ◌≤◌, ◌<◌, max}
use mathlib.Core.Path.{◌≡◌, ap, ◌∙◌}
use native.Mathlib.Omega.{arith}
use native.Mathlib.Numerals.{add-one}
use Rattle.model.specs.Costs.{total, largest}

module _ (g : ℕ → ℕ) where
  pub total_more : (n : ℕ) → total n g + g n ≡ total (n + 1) g
  unfolding total
  total_more n = rw add-one

  pub largest_more : (n : ℕ) → max (largest n g) (g n) ≡ largest (n + 1) g
  unfolding largest
  largest_more n = rw add-one

  pub largest_high : (n b : ℕ) → ((i : ℕ) → i < n → g i ≤ b) → largest n g ≤ b
  unfolding largest
  largest_high zero b each = omega arith
  largest_high (suc n) b each = omega (arith, each n (omega arith), largest_high n b (λ i h. each i (omega arith)))

  pub total_high : (n b : ℕ) → ((i : ℕ) → i < n → g i ≤ b) → total n g ≤ n * b
  unfolding total
  total_high zero b each = omega arith
  total_high (suc n) b each = omega (arith, each n (omega arith), total_high n b (λ i h. each i (omega arith)))

-- A loop over the numbers below n has passed those below i, and m is what a tally comes to there.
pub record Upto (tally : ℕ → ℕ) (n i m : ℕ) : Type 0 where
  pub within : i ≤ n
  pub is : m ≡ tally i

module _ {tally : ℕ → ℕ} {n i m : ℕ} where
  pub turn : {g : ℕ → ℕ} {x r : ℕ} (op : ℕ → ℕ → ℕ) → ((k : ℕ) → op (tally k) (g k) ≡ tally (k + 1)) →
      Upto tally n i m → i < n → x ≡ g i → r ≡ op m x → Upto tally n (i + 1) r
  turn op more upto below item result =
      record { within = omega arith; is = result ∙ (rw (upto.is, item) (more i)) }

  pub end : Upto tally n i m → n ≤ i → m ≡ tally n
  end upto over = let last : i ≡ n = omega (arith, upto.within) in upto.is ∙ ap tally last
