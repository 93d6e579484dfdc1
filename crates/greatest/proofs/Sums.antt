-- Laws of sums over loops, a term at a time.
use Prim.Native.Nat.{ℕ, zero, suc, ◌+◌, ◌≤◌, ◌<◌}
use mathlib.Core.Path.{◌≡◌, refl, ap}
use mathlib.Core.List.{List, [], ◌∷◌, Memᴰ}
use native.Mathlib.Omega.{arith}
use lib.ListN.{length, take}
use Rattle.model.specs.declared.Loop.{Loop}
use Rattle.model.specs.Graph.{loop}
use Rattle.model.specs.Walks.{sum}
use Rattle.greatest.proofs.Loops.{Ascend, same_header}

-- The sum over the first loops, as a program's turns make it.
pub sum_take : (f : Loop → ℕ) (ls : List Loop) (i : ℕ) → i < length ls → sum f (take (suc i) ls) ≡ sum f (take i ls) + f (loop ls i)
unfolding sum
sum_take f [] i h = absurd (omega arith)
sum_take f (l ∷ ls) zero h = omega arith
sum_take f (l ∷ ls) (suc i) h = omega (arith, sum_take f ls i (omega arith))

pub sum_none : (f : Loop → ℕ) (ls : List Loop) → ((l : Loop) → Memᴰ l ls → f l ≤ 0) → sum f ls ≤ 0
unfolding sum
sum_none f [] p = omega arith
sum_none f (l ∷ ls) p = omega (arith, p l (Memᴰ.head refl), sum_none f ls (λ m i. p m (Memᴰ.tail i)))

pub sum_at : (f : Loop → ℕ) {a : Loop} {ls : List Loop} → Memᴰ a ls → f a ≤ sum f ls
unfolding sum
sum_at f (Memᴰ.head e) = omega (arith, ap f e)
sum_at f (Memᴰ.tail i) = omega (arith, sum_at f i)

pub sum_same : (f g : Loop → ℕ) (ls : List Loop) → ((l : Loop) → Memᴰ l ls → f l ≡ g l) → sum f ls ≡ sum g ls
unfolding sum
sum_same f g [] p = refl
sum_same f g (l ∷ ls) p = omega (arith, p l (Memᴰ.head refl), sum_same f g ls (λ m i. p m (Memᴰ.tail i)))

pub sum_up : (f g : Loop → ℕ) (ls : List Loop) → ((l : Loop) → Memᴰ l ls → f l ≤ g l) → sum f ls ≤ sum g ls
unfolding sum
sum_up f g [] p = omega arith
sum_up f g (l ∷ ls) p = omega (arith, p l (Memᴰ.head refl), sum_up f g ls (λ m i. p m (Memᴰ.tail i)))

-- Where headers ascend, only a has its header.
pub sum_one : (f : Loop → ℕ) {a : Loop} {ls : List Loop} → Ascend ls → Memᴰ a ls
    → ((l : Loop) → Memᴰ l ls → (l.header ≡ a.header → ⊥) → f l ≤ 0) → sum f ls ≤ f a
unfolding sum
sum_one f {ls = y ∷ r} s (Memᴰ.head e) p =
    omega (arith, ap f e, sum_none f r (λ m i. p m (Memᴰ.tail i) (λ q. omega (arith, s.0 m i, same_header e))))
sum_one f {a = a} {ls = y ∷ r} s (Memᴰ.tail i) p =
    omega (arith, p y (Memᴰ.head refl) (λ e. omega (arith, s.0 a i)), sum_one f s.1 i (λ m j. p m (Memᴰ.tail j)))
sum_one f {a = a} {ls = []} s x8 p = elim x8 [ ]

module _ (f g k : Loop → ℕ) where
  pub sum_le : (ls : List Loop) → ((l : Loop) → Memᴰ l ls → f l ≤ g l + k l) → sum f ls ≤ sum g ls + sum k ls
  unfolding sum
  sum_le [] p = omega arith
  sum_le (l ∷ ls) p = omega (arith, p l (Memᴰ.head refl), sum_le ls (λ m i. p m (Memᴰ.tail i)))

  pub sum_ge : (ls : List Loop) → ((l : Loop) → Memᴰ l ls → g l + k l ≤ f l) → sum g ls + sum k ls ≤ sum f ls
  unfolding sum
  sum_ge [] p = omega arith
  sum_ge (l ∷ ls) p = omega (arith, p l (Memᴰ.head refl), sum_ge ls (λ m i. p m (Memᴰ.tail i)))

  module _ (x : ℕ) where
    -- The same, where one term is apart by x.
    pub sum_le_at : {a : Loop} {ls : List Loop} → Memᴰ a ls → ((l : Loop) → Memᴰ l ls → f l ≤ g l + k l) → f a + x ≤ g a + k a
        → sum f ls + x ≤ sum g ls + sum k ls
    unfolding sum
    sum_le_at {ls = y ∷ r} (Memᴰ.head e) p q = omega (arith, ap f e, ap g e, ap k e, sum_le r (λ m i. p m (Memᴰ.tail i)))
    sum_le_at {ls = y ∷ r} (Memᴰ.tail i) p q = omega (arith, p y (Memᴰ.head refl), sum_le_at i (λ m j. p m (Memᴰ.tail j)) q)
    sum_le_at {a = a} {ls = []} x9 p q = elim x9 [ ]

    pub sum_ge_at : {a : Loop} {ls : List Loop} → Ascend ls → Memᴰ a ls
        → ((l : Loop) → Memᴰ l ls → (l.header ≡ a.header → ⊥) → g l + k l ≤ f l) → g a + k a ≤ f a + x → sum g ls + sum k ls ≤ sum f ls + x
    unfolding sum
    sum_ge_at {ls = y ∷ r} s (Memᴰ.head e) p q =
        omega (arith, ap f e, ap g e, ap k e, sum_ge r (λ m i. p m (Memᴰ.tail i) (λ h. omega (arith, s.0 m i, same_header e))))
    sum_ge_at {a = a} {ls = y ∷ r} s (Memᴰ.tail i) p q =
        omega (arith, p y (Memᴰ.head refl) (λ h. omega (arith, s.0 a i)), sum_ge_at s.1 i (λ m j. p m (Memᴰ.tail j)) q)
    sum_ge_at {a = a} {ls = []} s x12 p q = elim x12 [ ]
