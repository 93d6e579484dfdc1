-- What passed tests tell: each of a list of tests, a test at each item of a list, and at each number below n.
use Prim.Native.Nat.{ℕ, ◌<◌}
use mathlib.Core.Path.{◌≡◌, refl, sym}
use mathlib.Core.List.Memᴰ
use mathlib.Core.List.{List, [], ◌∷◌, Memᴰ}
use mathlib.Core.Bool.{Bool, true, not}
use lib.Dec.{eqb}
use borrow.Author.Tests.{eqb-true, not-true, not-false}
use Rattle.model.proofs.Cases.{by_bool, and_left, and_right, true_not_false}
use Rattle.model.proofs.Search.{none_below}
use Rattle.examples.specs.Tests.{any, all, passed, every_below, has}

abbrev pub Each : List Bool → Type 0
Each [] = Unit {0}
Each (b ∷ bs) = (b ≡ true) × Each bs

pub each : (bs : List Bool) → passed bs ≡ true → Each bs
unfolding all
each [] e = tt
each (b ∷ bs) e = (and_left b _ e, each bs (and_right b _ e))

module _ {A : Type 0} (test : A → Bool) where
  pub all_at : (xs : List A) → all test xs ≡ true → {x : A} → Memᴰ x xs → test x ≡ true
  unfolding all
  all_at (y ∷ xs) e (Memᴰ.head q) = rw q (and_left (test y) _ e)
  all_at (y ∷ xs) e (Memᴰ.tail m) = all_at xs (and_right (test y) _ e) m
  all_at [] e x4 = elim x4 [ ]

  pub any_at : (xs : List A) → any test xs ≡ true → (x : A) × Memᴰ x xs × (test x ≡ true)
  unfolding any
  any_at [] e = true_not_false (sym e)
  any_at (y ∷ xs) e =
      by_bool (test y)
      (λ q. (y, Memᴰ.head refl, q))
      (λ q. let (x, m, t) = any_at xs (rw q at e) in (x, Memᴰ.tail m, t))

pub has_is : (xs : List ℕ) (g : ℕ) → has xs g ≡ true → Memᴰ g xs
has_is xs g e = let (x, m, t) = any_at (eqb g) xs e in Memᴰ.cast (eqb-true g x t) m

pub every_below_lem : (n : ℕ) (test : ℕ → Bool) → every_below n test ≡ true → (i : ℕ) → i < n → test i ≡ true
every_below_lem n test e i l = not-false (test i) (none_below n (λ j. not (test j)) (not-true _ e) i l)
