-- The tests of bits after `|`, `&`, `^` and `<<`, and that a word other than 0 has a bit.
use Prim.Native.Nat.{ℕ, ◌^◌, min, max}
use mathlib.Core.Path.{◌≡◌, refl, ap, ◌∙◌}
use mathlib.Core.Bool.{true, false, not, ◌&&◌, ◌||◌}
use lib.Dec.{eqb}
use lib.Bits.{bit_and, bit_or, bit_xor, differ}
use borrow.Author.Tests.{eq-eqb, ne_eqb, eqb-true, eqb-false}
use Rattle.model.proofs.Cases.{by_bool}
use Rattle.bits.specs.Tests.{has}
use Rattle.bits.proofs.Bits.{bit, bit_is, bit-lt, bit-zero, below_two, bit_or_lem, bit_and_lem, bit_less, bit_of, pow_member, pow_only}

has_bit : (w k : ℕ) → has w k ≡ eqb (bit k w) 1
unfolding has
has_bit w k = ap (λ (x : ℕ). eqb x 1) (bit_is k w)

module _ (a b k : ℕ) where
  pub has_or : has (bit_or a b) k ≡ (has a k || has b k)
  has_or =
      rw (has_bit (bit_or a b) k, has_bit a k, has_bit b k, bit_or_lem k a b)
      (below_two (λ x y. eqb (max x y) 1 ≡ (eqb x 1 || eqb y 1)) refl refl refl refl (bit k a) (bit k b) (bit-lt k a) (bit-lt k b))

  pub has_and : has (bit_and a b) k ≡ (has a k && has b k)
  has_and =
      rw (has_bit (bit_and a b) k, has_bit a k, has_bit b k, bit_and_lem k a b)
      (below_two (λ x y. eqb (min x y) 1 ≡ (eqb x 1 && eqb y 1)) refl refl refl refl (bit k a) (bit k b) (bit-lt k a) (bit-lt k b))

  -- The members of a that are not of b.
  pub has_less : has (bit_xor (bit_or a b) b) k ≡ (has a k && not (has b k))
  has_less =
      rw (has_bit (bit_xor (bit_or a b) b) k, has_bit a k, has_bit b k, bit_less a b k)
      (below_two (λ x y. eqb (differ (max x y) y) 1 ≡ (eqb x 1 && not (eqb y 1))) refl refl refl refl (bit k a) (bit k b) (bit-lt k a) (bit-lt k b))

pub has_zero : (k : ℕ) → has 0 k ≡ false
has_zero k = has_bit 0 k ∙ ap (λ (x : ℕ). eqb x 1) (bit-zero k)

pub has_pow : (g k : ℕ) → has (2 ^ g) k ≡ eqb k g
unfolding has
has_pow g k =
    by_bool (eqb k g)
    (λ e. rw (e, eqb-true k g e) (eq-eqb _ 1 (pow_member g)))
    (λ e. rw e (ne_eqb _ 1 (λ m. eqb-false k g e (pow_only g k m))))

pub some_bit : (w : ℕ) → (w ≡ 0 → ⊥) → (k : ℕ) × (has w k ≡ true)
some_bit w ne = let (k, m) = bit_of w ne in (k, has_bit w k ∙ eq-eqb _ 1 m)
