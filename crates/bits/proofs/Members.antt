-- The members that two words share, a word with one member in place of others, and that its members tell a word.
use Prim.Native.Nat.{ℕ, zero, suc, ◌/◌, ◌^◌, ◌<◌}
use mathlib.Core.Path.{◌≡◌, refl, sym, ◌∙◌}
use mathlib.Core.Logic.{◌⊎◌, inl, inr, ⊎_elim, ◌↔◌}
use native.Mathlib.Nat.{pow-suc}
use native.Mathlib.Omega.{arith}
use lib.Bits.{bit_and, bit_or, bit_xor}
use Rattle.model.specs.Results.{Member}
use Rattle.bits.proofs.Bits.{bit, bit_is, bit-lt, below_two, bit_and_lem, bit_of, none_in_zero, with_members, less_members}

-- Both words have the member.
pub and_members : (a b k : ℕ) → Member (bit_and a b) k ↔ (Member a k × Member b k)
and_members a b k =
    rw (bit_is k (bit_and a b), bit_is k a, bit_is k b, bit_and_lem k a b)
    (λ h. (omega (arith, bit-lt k a), omega (arith, bit-lt k b)), λ (x, y). omega arith)

-- Two words have a member in common.
pub common : (a b : ℕ) → (0 < bit_and a b) ↔ ((k : ℕ) × Member a k × Member b k)
common a b = (
  λ pos.
      let (k, m) = bit_of (bit_and a b) (λ e. omega arith) in
      let (x, y) = (and_members a b k).0 (bit_is k (bit_and a b) ∙ m) in
      (k, x, y),
  λ (k, x, y). not_zero (bit_and a b) k ((and_members a b k).1 (x, y)),
)
  where
    not_zero : (w k : ℕ) → Member w k → 0 < w
    not_zero zero k m = absurd (none_in_zero k m)
    not_zero (suc w) k m = omega arith

-- The members of w but those of r, and g.
pub renewed_members : (w r g b : ℕ) → Member (bit_or (bit_xor (bit_or w r) r) (2 ^ g)) b ↔ ((b ≡ g) ⊎ ((Member r b → ⊥) × Member w b))
renewed_members w r g b = (
  λ h. ⊎_elim inl (λ m. inr ((less_members w r b).0 m)) ((with_members (bit_xor (bit_or w r) r) g b).0 h),
  λ h. (with_members (bit_xor (bit_or w r) r) g b).1 (⊎_elim inl (λ m. inr ((less_members w r b).1 m)) h),
)

-- Words of n bits with the same members are the same.
same_bits : (n a b : ℕ) → a < 2 ^ n → b < 2 ^ n → ((k : ℕ) → bit k a ≡ bit k b) → a ≡ b
same_bits zero a b la lb same = omega arith
same_bits (suc n) a b la lb same =
    omega (arith, same 0, same_bits n (a / 2) (b / 2) (omega (arith, pow-suc 2 n)) (omega (arith, pow-suc 2 n)) (λ k. same (suc k)))

pub same_members : (n a b : ℕ) → a < 2 ^ n → b < 2 ^ n → ((k : ℕ) → Member a k ↔ Member b k) → a ≡ b
same_members n a b la lb same = same_bits n a b la lb (λ k. at k (rw (bit_is k a, bit_is k b) at (same k)))
  where
    at : (k : ℕ) → (bit k a ≡ 1) ↔ (bit k b ≡ 1) → bit k a ≡ bit k b
    at k =
        below_two (λ x y. (x ≡ 1) ↔ (y ≡ 1) → x ≡ y)
        (λ h. refl) (λ h. h.1 refl) (λ h. sym (h.0 refl)) (λ h. refl)
        (bit k a) (bit k b) (bit-lt k a) (bit-lt k b)
