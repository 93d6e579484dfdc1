-- A number's digits: one digit more, how many there are, and the last of them.
use Prim.Native.Nat.{ℕ, zero, suc, ◌+◌, ◌-◌, ◌*◌, ◌/◌, ◌%◌, ◌^◌, ◌≤◌, ◌<◌, max}
use native.Mathlib.Omega.{arith}
use mathlib.Core.Path.{◌≡◌, refl, sym, ap, ◌∙◌}
use mathlib.Core.Bool.{Bool, true, false, cond}
use mathlib.Core.List.{List, [], ◌∷◌, ◌++◌}
use lib.ListN.{length, length-append}
use lib.Dec.{ltb}
use borrow.Author.Tests.{lt-ltb, le-ltb}
use Rattle.model.specs.Decimals.{digits_of, decimal}
use Rattle.model.proofs.Cases.{by_less, by_order}
use Rattle.decimals.specs.Digits.{most_digits}

digits_onto : (k n : ℕ) (s t : List ℕ) → digits_of k n s ++ t ≡ digits_of k n (s ++ t)
unfolding digits_of
digits_onto zero n s t = refl
digits_onto (suc k) n s t = at (ltb n 10) (digits_onto k (n / 10) ((48 + n % 10) ∷ s) t)
  where
    at : (b : Bool) → digits_of k (n / 10) ((48 + n % 10) ∷ s) ++ t ≡ digits_of k (n / 10) ((48 + n % 10) ∷ (s ++ t)) →
        cond b ((48 + n) ∷ s) (digits_of k (n / 10) ((48 + n % 10) ∷ s)) ++ t ≡ cond b ((48 + n) ∷ (s ++ t)) (digits_of k (n / 10) ((48 + n % 10) ∷ (s ++ t)))
    at true ih = refl
    at false ih = ih

fuel : (k j n : ℕ) (s : List ℕ) → n ≤ k → n ≤ j → digits_of k n s ≡ digits_of j n s
unfolding digits_of
fuel zero zero n s a b = refl
fuel zero (suc j) n s a b = simp (lt-ltb n 10 (omega arith))
fuel (suc k) zero n s a b = simp (lt-ltb n 10 (omega arith))
fuel (suc k) (suc j) n s a b =
    by_less (λ x. x ≡ digits_of (suc j) n s) n 10 (λ h. simp (lt-ltb n 10 h))
    (λ h. rw (le-ltb n 10 h) (fuel k j (n / 10) ((48 + n % 10) ∷ s) (omega arith) (omega arith)))

pub front : (n : ℕ) (t : List ℕ) → decimal n ++ t ≡ digits_of n n t
unfolding decimal
front n t = digits_onto n n [] t

-- A number of one digit, and one with more.
pub short : (n : ℕ) → n < 10 → decimal n ≡ (48 + n) ∷ []
unfolding decimal digits_of
short zero h = refl
short (suc n) h = rw (lt-ltb (suc n) 10 h)

unfolded : (n : ℕ) (t : List ℕ) → 10 ≤ n → digits_of n n t ≡ digits_of (n / 10) (n / 10) ((48 + n % 10) ∷ t)
unfolding digits_of
unfolded zero t h = absurd (omega arith)
unfolded (suc n) t h = rw (le-ltb (suc n) 10 h) (fuel n (suc n / 10) (suc n / 10) ((48 + suc n % 10) ∷ t) (omega arith) (omega arith))

pub long : (n : ℕ) → 10 ≤ n → decimal n ≡ decimal (n / 10) ++ ((48 + n % 10) ∷ [])
unfolding decimal
long n h = unfolded n [] h ∙ sym (front (n / 10) ((48 + n % 10) ∷ []))

pub short_size : (n : ℕ) → n < 10 → length (decimal n) ≡ 1
short_size n h = ap length (short n h)

pub long_size : (n : ℕ) → 10 ≤ n → length (decimal n) ≡ length (decimal (n / 10)) + 1
long_size n h = ap length (long n h) ∙ length-append (decimal (n / 10)) ((48 + n % 10) ∷ [])

-- A number below 10^k has at most k digits, and one from 10^k on has more.
pub few_digits : (k n : ℕ) → n < 10 ^ suc k → length (decimal n) ≤ suc k
few_digits zero n h = omega (arith, short_size n (omega arith))
few_digits (suc k) n h =
    by_order n 10 (λ small. omega (arith, short_size n small))
    (λ large. omega (arith, long_size n large, few_digits k (n / 10) (omega arith)))

power : (k : ℕ) → 1 ≤ 10 ^ k
power zero = omega arith
power (suc k) = omega (arith, power k)

pub many_digits : (k n : ℕ) → 10 ^ k ≤ n → k < length (decimal n)
many_digits zero n h = by_order n 10 (λ small. omega (arith, short_size n small)) (λ large. omega (arith, long_size n large))
many_digits (suc k) n h = omega (arith, long_size n (omega (arith, power k)), many_digits k (n / 10) (omega arith))

pub word_digits : (n : ℕ) → n < 2 ^ 64 → length (decimal n) ≤ most_digits
word_digits n h = few_digits (most_digits - 1) n (omega arith)

-- The power of ten that a number reaches, 1 for 0, gives its digits.
pub size_by_power : (n k : ℕ) → 10 ^ k ≤ max n 1 → max n 1 < 10 * 10 ^ k → length (decimal n) ≡ k + 1
size_by_power zero zero low high = short_size 0 (omega arith)
size_by_power zero (suc k) low high = absurd (omega (arith, power k))
size_by_power (suc n) k low high = omega (arith, few_digits k (suc n) (omega arith), many_digits k (suc n) (omega arith))
