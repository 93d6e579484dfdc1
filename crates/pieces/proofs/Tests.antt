-- The tests of a digit's byte.
use Prim.Native.Nat.{ℕ, ◌+◌, ◌-◌, ◌*◌, ◌/◌}
use native.Mathlib.Omega.{arith}
use mathlib.Core.Path.{◌≡◌, sym, ◌∙◌}
use mathlib.Core.Bool.{Bool, true, false, ◌&&◌}
use lib.Dec.{leb}
use borrow.Author.Tests.{lt-leb, le-leb, lt-ltb, le-ltb}
use Rattle.model.proofs.Cases.{by_bool, by_order}
use Rattle.std.specs.Char.{is_ascii_digit}
use Rattle.grammar.specs.Numerals.{digit, opens, fits}

-- The library's test of a digit's byte is the grammar's.
same_digit : (c : ℕ) → is_ascii_digit c ≡ digit c
same_digit c =
    by_order c 48 (λ h. rw (lt-leb 48 c h))
    (λ h. by_order c 58 (λ k. rw (le-leb 48 c h, lt-ltb c 58 k, le-leb c 57 (omega arith))) (λ k. rw (le-leb 48 c h, le-ltb c 58 k, lt-leb c 57 (omega arith))))

pub is_digit : {b : Bool} (c : ℕ) → b ≡ is_ascii_digit c → b ≡ true → digit c ≡ true
is_digit {b} c e t = sym (same_digit c) ∙ sym e ∙ t

pub no_digit : {b : Bool} (c : ℕ) → b ≡ is_ascii_digit c → b ≡ false → digit c ≡ false
no_digit {b} c e t = sym (same_digit c) ∙ sym e ∙ t

module _ (l m c : ℕ) where
  pub opens_none : digit c ≡ false → false ≡ opens l m c
  unfolding opens
  opens_none e = rw e

  pub opens_digit : digit c ≡ true → (leb l (c - 48) && leb (c - 48) m) ≡ opens l m c
  unfolding opens
  opens_digit e = rw e

module _ (v m c : ℕ) where
  pub fits_none : digit c ≡ false → false ≡ fits v m c
  unfolding fits
  fits_none e = rw e

  pub fits_zero : v ≡ 0 → false ≡ fits v m c
  unfolding fits
  fits_zero e = by_bool (digit c) (λ d. rw (d, e)) (λ d. rw d)

  -- The number with the digit is within the greatest where the number before it is within what the digit leaves.
  pub fits_digit : digit c ≡ true → (v ≡ 0 → ⊥) → (leb (c - 48) m && leb v ((m - (c - 48)) / 10)) ≡ fits v m c
  unfolding fits
  fits_digit e n =
      rw (e, lt-ltb 0 v (omega (arith, n)))
      (by_order m (c - 48) (λ h. rw (lt-leb (c - 48) m h, lt-leb (v * 10 + (c - 48)) m (omega arith)))
      (λ h. by_order ((m - (c - 48)) / 10) v (λ k. rw (le-leb (c - 48) m h, lt-leb v ((m - (c - 48)) / 10) k, lt-leb (v * 10 + (c - 48)) m (omega arith)))
      (λ k. rw (le-leb (c - 48) m h, le-leb v ((m - (c - 48)) / 10) k, le-leb (v * 10 + (c - 48)) m (omega arith)))))
