-- Going by cases on a test, with what the test tells in each case; conjunctions of tests.
use Prim.Native.Nat.{ℕ, suc, ◌+◌, ◌-◌, ◌≤◌, ◌<◌}
use mathlib.Core.Path.{◌≡◌, refl, sym}
use mathlib.Core.Bool.{Bool, true, false, cond, ◌&&◌, true≢false}
use native.Mathlib.Omega.{arith}
use lib.Dec.{ltb, eqb}
use borrow.Author.Tests.{ltb-true, ltb-false, eqb-true, eqb-false}

pub by_bool : {P : Type 0} (t : Bool) → (t ≡ true → P) → (t ≡ false → P) → P
by_bool true f g = f refl
by_bool false f g = g refl

pub by_order : {P : Type 0} (a b : ℕ) → (a < b → P) → (b ≤ a → P) → P
by_order a b f g = by_bool (ltb a b) (λ e. f (ltb-true a b e)) (λ e. g (ltb-false a b e))

pub by_cond : {A : Type 0} (P : A → Type 0) {x y : A} (t : Bool) → (t ≡ true → P x) → (t ≡ false → P y) → P (cond t x y)
by_cond P true f g = f refl
by_cond P false f g = g refl

pub by_less : {A : Type 0} (P : A → Type 0) {x y : A} (a b : ℕ) → (a < b → P x) → (b ≤ a → P y) → P (cond (ltb a b) x y)
by_less P a b f g = by_cond P (ltb a b) (λ e. f (ltb-true a b e)) (λ e. g (ltb-false a b e))

pub true_not_false : {P : Type 0} → true ≡ false → P
true_not_false e = absurd (true≢false e)

-- Tests that pass together are the same.
pub same_bool : (a b : Bool) → (a ≡ true → b ≡ true) → (b ≡ true → a ≡ true) → a ≡ b
same_bool true b to from = sym (to refl)
same_bool false true to from = from refl
same_bool false false to from = refl

pub and_left : (a b : Bool) → (a && b) ≡ true → a ≡ true
and_left true b e = refl
and_left false b e = e

pub and_right : (a b : Bool) → (a && b) ≡ true → b ≡ true
and_right true b e = e
and_right false b e = true_not_false (sym e)

-- The turns that are left of a loop from i to n.
pub left_of_lem : (i n : ℕ) → i < n → n - i ≡ suc (n - (i + 1))
left_of_lem i n h = omega arith

pub by_same : {P : Type 0} (a b : ℕ) → (a ≡ b → P) → ((a ≡ b → ⊥) → P) → P
by_same a b f g = by_bool (eqb a b) (λ e. f (eqb-true a b e)) (λ e. g (eqb-false a b e))

-- A loop that has come to its end.
pub all_done : (i count n : ℕ) → i ≤ count → count ≤ i → count ≡ n → i ≡ n
all_done i count n low high e = omega arith
