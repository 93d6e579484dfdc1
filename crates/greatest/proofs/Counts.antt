-- How often each header has been visited in the present stay: the counts one step before, and a number made of them that falls at each step back.
use Prim.Native.Nat.{ℕ, suc, ◌+◌, ◌-◌, ◌*◌, ◌≤◌, ◌<◌}
use mathlib.Core.Path.{◌≡◌, refl}
use mathlib.Core.List.{List, [], ◌∷◌, Memᴰ}
use mathlib.Core.Bool.{true, false, cond}
use native.Mathlib.Omega.{arith}
use native.Mathlib.Nat.{mul-le-mul_right}
use lib.Dec.{leb, eqb}
use borrow.Author.Tests.{eq-eqb, ne_eqb, le-leb, lt-leb}
use Rattle.model.specs.declared.Loop.{Loop}
use Rattle.model.specs.Graph.{holds}
use Rattle.model.proofs.Cases.{by_bool, by_order}
use Rattle.greatest.proofs.Loops.{holds_from, past_range, Ascend}

-- The counts one step before v. A loop that does not hold v was left, if at all, after all its iterations.
unfoldable pub prev : (Loop → ℕ) → ℕ → Loop → ℕ
prev k v l = cond (holds l v) (k l - cond (eqb l.header v) 1 0) l.bound

-- A loop's digit: 0 before its range, its count inside, and more than any count behind.
unfoldable pub digit : (Loop → ℕ) → ℕ → Loop → ℕ
digit k v l = cond (holds l v) (k l) (cond (leb l.header v) (l.bound + 1) 0)

module _ (k : Loop → ℕ) (v : ℕ) (l : Loop) where
  pub prev_out : holds l v ≡ false → prev k v l ≡ l.bound
  unfolding prev
  prev_out e = rw e

  pub prev_body : holds l v ≡ true → (l.header ≡ v → ⊥) → prev k v l ≡ k l
  unfolding prev
  prev_body e q = rw (e, ne_eqb l.header v q) (omega arith)

  pub prev_head : holds l v ≡ true → l.header ≡ v → prev k v l ≡ k l - 1
  unfolding prev
  prev_head e q = rw (e, eq-eqb l.header v q)

  pub prev_le : holds l v ≡ true → prev k v l ≤ k l
  unfolding prev
  prev_le e = rw e (omega arith)

  pub digit_in : holds l v ≡ true → digit k v l ≡ k l
  unfolding digit
  digit_in e = rw e

  pub digit_before : holds l v ≡ false → v < l.header → digit k v l ≡ 0
  unfolding digit
  digit_before e p = rw (e, lt-leb l.header v p)

  pub digit_after : holds l v ≡ false → l.header ≤ v → digit k v l ≡ l.bound + 1
  unfolding digit
  digit_after e p = rw (e, le-leb l.header v p)

  pub digit_small : (holds l v ≡ true → k l ≤ l.bound) → digit k v l ≤ l.bound + 1
  digit_small f =
      by_bool (holds l v)
      (λ e. omega (arith, f e, digit_in e))
      (λ e. by_order v l.header (λ p. omega (arith, digit_before e p)) (λ p. omega (arith, digit_after e p)))

-- Over an ascending edge no digit grows.
pub digit_low : (k : Loop → ℕ) (u v : ℕ) (l : Loop) → u < v → digit (prev k v) u l ≤ digit k v l
digit_low k u v l p = by_bool (holds l u) (λ a. by_bool (holds l v) (both a) (leaving a)) outside
  where
    both : holds l u ≡ true → holds l v ≡ true → digit (prev k v) u l ≤ digit k v l
    both a b = omega (arith, digit_in (prev k v) u l a, digit_in k v l b, prev_le k v l b)

    leaving : holds l u ≡ true → holds l v ≡ false → digit (prev k v) u l ≤ digit k v l
    leaving a b = let x = holds_from l u a in omega (arith, digit_in (prev k v) u l a, digit_after k v l b (omega arith), prev_out k v l b)

    behind : holds l u ≡ false → l.header ≤ u → l.last < u → digit (prev k v) u l ≤ digit k v l
    behind a x y =
        by_bool (holds l v)
        (λ b. let z = holds_from l v b in absurd (omega arith))
        (λ b. omega (arith, digit_after (prev k v) u l a x, digit_after k v l b (omega arith)))

    outside : holds l u ≡ false → digit (prev k v) u l ≤ digit k v l
    outside a = by_order u l.header (λ x. omega (arith, digit_before (prev k v) u l a x)) (λ x. behind a x (past_range l u a x))

-- How far a walk is, as one number: a digit for each loop, the outer loops' first, and then the vertex, which is below n.
module _ (n : ℕ) where
  unfoldable pub radix : List Loop → ℕ
  radix [] = n
  radix (l ∷ ls) = (l.bound + 2) * radix ls

  unfoldable pub far : (Loop → ℕ) → ℕ → List Loop → ℕ
  far d v [] = v
  far d v (l ∷ ls) = d l * radix ls + far d v ls

  far_small : (d : Loop → ℕ) (v : ℕ) (ls : List Loop) → v < n → ((l : Loop) → Memᴰ l ls → d l ≤ l.bound + 1) → far d v ls < radix ls
  unfolding far radix
  far_small d v [] s p = s
  far_small d v (l ∷ ls) s p =
      omega (arith, mul-le-mul_right (radix ls) (p l (Memᴰ.head refl)), far_small d v ls s (λ m i. p m (Memᴰ.tail i)))

  -- It falls where the vertex falls and no digit grows, and where a digit falls and no outer one grows.
  pub far_low : (d e : Loop → ℕ) (u v : ℕ) (ls : List Loop) → u < v → ((l : Loop) → Memᴰ l ls → d l ≤ e l) → far d u ls < far e v ls
  unfolding far
  far_low d e u v [] s p = s
  far_low d e u v (l ∷ ls) s p =
      omega (arith, mul-le-mul_right (radix ls) (p l (Memᴰ.head refl)), far_low d e u v ls s (λ m i. p m (Memᴰ.tail i)))

  pub far_lex : (d e : Loop → ℕ) (u v : ℕ) {a : Loop} {ls : List Loop} → u < n → ((l : Loop) → Memᴰ l ls → d l ≤ l.bound + 1)
      → Ascend ls → Memᴰ a ls
      → ((l : Loop) → Memᴰ l ls → l.header < a.header → d l ≤ e l) → d a < e a → far d u ls < far e v ls
  unfolding far
  far_lex d e u v {a = a} {ls = x ∷ r} s b o (Memᴰ.head h) p q =
      let q' : d x < e x = rw h at q in
      omega (arith, mul-le-mul_right {m = suc (d x)} {n = e x} (radix r) q', far_small d u r s (λ m i. b m (Memᴰ.tail i)))
  far_lex d e u v {a = a} {ls = x ∷ r} s b o (Memᴰ.tail i) p q =
      omega (
        arith,
        mul-le-mul_right (radix r) (p x (Memᴰ.head refl) (o.0 a i)),
        far_lex d e u v s (λ m j. b m (Memᴰ.tail j)) o.1 i (λ m j. p m (Memᴰ.tail j)) q,
      )
  far_lex d e u v {a = a} {ls = []} s b o x17 p q = elim x17 [ ]
