-- The members of words after `|`, `&`, `^`, `<<` and `>>`.
use mathlib.Core.Path.{◌≡◌, refl, sym, ap, ◌∙◌}
use mathlib.Core.Logic.{◌⊎◌, inl, inr, ⊎_elim, ◌↔◌}
use Prim.Native.Nat.{ℕ, zero, suc, ◌+◌, ◌-◌, ◌*◌, ◌/◌, ◌%◌, ◌^◌, ◌≤◌, ◌<◌, min, max}
use native.Mathlib.Nat.{pow-suc, mul_comm, one-mul, div-one, div-div-eq-div-mul, mod-eq_of_lt}
use native.Mathlib.Omega.{arith}
use lib.Pow.{pow_pos, pow-lt, shr-shr}
use lib.Bits.{bit_and, bit_or, bit_xor, differ, and_step, or_step, xor_step, or_add_and, and_le_r}
use Rattle.model.specs.Results.{Member}

-- Bit k of w.
abbrev pub bit : ℕ → ℕ → ℕ
bit zero w = w % 2
bit (suc k) w = bit k (w / 2)

pub bit_is : (k w : ℕ) → w / 2 ^ k % 2 ≡ bit k w
bit_is zero w = ap (λ (x : ℕ). x % 2) (div-one w)
bit_is (suc k) w = rw (pow-suc, mul_comm (2 ^ k) 2, ← div-div-eq-div-mul) (bit_is k (w / 2))

pub bit-lt : (k w : ℕ) → bit k w < 2
bit-lt zero w = omega arith
bit-lt (suc k) w = bit-lt k (w / 2)

pub bit-zero : (k : ℕ) → bit k 0 ≡ 0
bit-zero zero = refl
bit-zero (suc k) = bit-zero k

-- What holds of 0 and 1 holds of numbers below 2.
pub below_two : (P : ℕ → ℕ → Type 0) → P 0 0 → P 0 1 → P 1 0 → P 1 1 → (x y : ℕ) → x < 2 → y < 2 → P x y
below_two P a b c d zero zero h g = a
below_two P a b c d zero (suc zero) h g = b
below_two P a b c d (suc zero) zero h g = c
below_two P a b c d (suc zero) (suc zero) h g = d
below_two P a b c d (suc (suc x)) y h g = absurd (omega arith)
below_two P a b c d zero (suc (suc y)) h g = absurd (omega arith)
below_two P a b c d (suc zero) (suc (suc y)) h g = absurd (omega arith)

pub none_in_zero : (k : ℕ) → Member 0 k → ⊥
none_in_zero k h = omega (arith, bit_is k 0, bit-zero k)

-- a | b has the members of both, and no other.
pub bit_or_lem : (k a b : ℕ) → bit k (bit_or a b) ≡ max (bit k a) (bit k b)
bit_or_lem zero a b = omega (arith, or_step a b)
bit_or_lem (suc k) a b =
    let e : bit_or a b / 2 ≡ bit_or (a / 2) (b / 2) = omega (arith, or_step a b) in
    ap (bit k) e ∙ bit_or_lem k (a / 2) (b / 2)

-- a & b has the members that are of both.
pub bit_and_lem : (k a b : ℕ) → bit k (bit_and a b) ≡ min (bit k a) (bit k b)
bit_and_lem zero a b = omega (arith, and_step a b)
bit_and_lem (suc k) a b =
    let e : bit_and a b / 2 ≡ bit_and (a / 2) (b / 2) = omega (arith, and_step a b) in
    ap (bit k) e ∙ bit_and_lem k (a / 2) (b / 2)

pub le_or : (a b : ℕ) → a ≤ bit_or a b
le_or a b = omega (arith, or_add_and a b, and_le_r a b)

module _ (a b k : ℕ) where
  pub or_left : Member a k → Member (bit_or a b) k
  or_left h = omega (arith, bit_is k a, bit_is k (bit_or a b), bit_or_lem k a b, bit-lt k a, bit-lt k b)

  pub or_right : Member b k → Member (bit_or a b) k
  or_right h = omega (arith, bit_is k b, bit_is k (bit_or a b), bit_or_lem k a b, bit-lt k a, bit-lt k b)

  pub or_only : Member (bit_or a b) k → Member a k ⊎ Member b k
  or_only h = go (bit k a) refl
    where
      go : (x : ℕ) → bit k a ≡ x → Member a k ⊎ Member b k
      go zero e = inr (omega (arith, bit_is k a, bit_is k b, bit_is k (bit_or a b), bit_or_lem k a b, bit-lt k b, h))
      go (suc x) e = inl (omega (arith, bit_is k a, bit-lt k a))

-- 1 << g has the member g alone.
half_pow : (g : ℕ) → 2 ^ suc g / 2 ≡ 2 ^ g
half_pow g = omega (arith, pow-suc 2 g)

bit-pow : (g : ℕ) → bit g (2 ^ g) ≡ 1
bit-pow zero = refl
bit-pow (suc g) = ap (bit g) (half_pow g) ∙ bit-pow g

bit-pow_only : (k g : ℕ) → bit k (2 ^ g) ≡ 1 → k ≡ g
bit-pow_only zero zero h = refl
bit-pow_only zero (suc g) h = absurd (omega (arith, pow-suc 2 g))
bit-pow_only (suc k) zero h = absurd (omega (arith, bit-zero k))
bit-pow_only (suc k) (suc g) h = ap suc (bit-pow_only k g (ap (bit k) (sym (half_pow g)) ∙ h))

pub one_shl : (g : ℕ) → g < 32 → (1 * 2 ^ g) % 2 ^ 32 ≡ 2 ^ g
one_shl g h = ap (λ (x : ℕ). x % 2 ^ 32) (one-mul (2 ^ g)) ∙ mod-eq_of_lt (pow-lt h)

pub pow_member : (g : ℕ) → Member (2 ^ g) g
pow_member g = bit_is g (2 ^ g) ∙ bit-pow g

pub pow_only : (g k : ℕ) → Member (2 ^ g) k → k ≡ g
pow_only g k h = bit-pow_only k g (sym (bit_is k (2 ^ g)) ∙ h)

-- The members of w, and g.
pub with_members : (w g b : ℕ) → Member (bit_or w (2 ^ g)) b ↔ ((b ≡ g) ⊎ Member w b)
with_members w g b = (
  λ h. ⊎_elim inr (λ m. inl (pow_only g b m)) (or_only w (2 ^ g) b h),
  ⊎_elim (λ e. or_right w (2 ^ g) b (rw e (pow_member g))) (or_left w (2 ^ g) b),
)

-- a ^ b has the members of one that are not of the other.
differ_le : (x y : ℕ) → differ x y ≤ max x y
differ_le zero y = omega arith
differ_le (suc x) zero = omega arith
differ_le (suc x) (suc y) = omega (arith, differ_le x y)

pub bit-xor : (k a b : ℕ) → bit k (bit_xor a b) ≡ differ (bit k a) (bit k b)
bit-xor zero a b = omega (arith, xor_step a b, differ_le (a % 2) (b % 2))
bit-xor (suc k) a b =
    let e : bit_xor a b / 2 ≡ bit_xor (a / 2) (b / 2) = omega (arith, xor_step a b, differ_le (a % 2) (b % 2)) in
    ap (bit k) e ∙ bit-xor k (a / 2) (b / 2)

-- The members of w but those of r.
module _ (w r k : ℕ) where
  pub bit_less : bit k (bit_xor (bit_or w r) r) ≡ differ (max (bit k w) (bit k r)) (bit k r)
  bit_less = rw (bit-xor k (bit_or w r) r, bit_or_lem k w r)

  pub less_members : Member (bit_xor (bit_or w r) r) k ↔ ((Member r k → ⊥) × Member w k)
  less_members =
      rw (bit_is k (bit_xor (bit_or w r) r), bit_is k r, bit_is k w, bit_less)
      (below_two (λ x y. (differ (max x y) y ≡ 1) ↔ ((y ≡ 1 → ⊥) × (x ≡ 1)))
      (λ e. absurd (omega arith), λ (ne, e). absurd (omega arith))
      (λ e. absurd (omega arith), λ (ne, e). absurd (omega arith))
      (λ e. (λ q. omega arith, refl), λ (ne, e). refl)
      (λ e. absurd (omega arith), λ (ne, e). absurd (ne refl))
      (bit k w) (bit k r) (bit-lt k w) (bit-lt k r))

-- The members of w but g.
pub without_members : (w g b : ℕ) → Member (bit_xor (bit_or w (2 ^ g)) (2 ^ g)) b ↔ ((g ≡ b → ⊥) × Member w b)
without_members w g b = (
  λ h. let (other, m) = (less_members w (2 ^ g) b).0 h in (λ e. other (rw (sym e) (pow_member g)), m),
  λ (ne, m). (less_members w (2 ^ g) b).1 (λ p. ne (sym (pow_only g b p)), m),
)

-- A word other than 0 has a bit.
some_bit_below : (n w : ℕ) → w ≤ n → (w ≡ 0 → ⊥) → (k : ℕ) × (bit k w ≡ 1)
some_bit_below zero w le ne = absurd (ne (omega arith))
some_bit_below (suc n) w le ne = at (w % 2) refl (some_bit_below n (w / 2))
  where
    at : (b : ℕ) → w % 2 ≡ b → (w / 2 ≤ n → (w / 2 ≡ 0 → ⊥) → (k : ℕ) × (bit k (w / 2) ≡ 1)) → (k : ℕ) × (bit k w ≡ 1)
    at zero even rest = let (k, m) = rest (omega arith) (λ z. ne (omega arith)) in (suc k, m)
    at (suc b) odd rest = (0, omega arith)

pub bit_of : (w : ℕ) → (w ≡ 0 → ⊥) → (k : ℕ) × (bit k w ≡ 1)
bit_of w ne = some_bit_below w w (omega arith) ne

-- The word of all ones, shifted down so far that n ones are left.
bit_ones : (n k : ℕ) → k < n → bit k (2 ^ n - 1) ≡ 1
bit_ones zero k h = absurd (omega arith)
bit_ones (suc n) zero h = omega (arith, pow-suc 2 n, pow_pos n)
bit_ones (suc n) (suc k) h =
    let e : (2 ^ suc n - 1) / 2 ≡ 2 ^ n - 1 = omega (arith, pow-suc 2 n, pow_pos n) in
    ap (bit k) e ∙ bit_ones n k (omega arith)

pub below_members : (n b : ℕ) → n ≤ 32 → b < n → Member (4294967295 / 2 ^ (32 - n)) b
below_members n b h lt =
    rw (shr-shr 4294967295 (32 - n) b) (bit_is (32 - n + b) 4294967295 ∙ bit_ones 32 (32 - n + b) (omega arith))
