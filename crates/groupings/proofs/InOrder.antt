-- Groupings in their order: the next one after a grouping leaves none out, and whatever is shown of each grouping as it comes is shown of all.
use Prim.Native.Nat.{ℕ, zero, suc, ◌+◌, ◌-◌, ◌*◌, ◌^◌, ◌≤◌, ◌<◌}
use native.Mathlib.Omega.{arith}
use native.Mathlib.Nat.{pow-suc}
use mathlib.Core.Path.{◌≡◌, refl, sym, ◌∙◌, subst}
use mathlib.Core.Logic.{◌⊎◌, inl, inr}
use Rattle.model.specs.Best.{top}
use Rattle.model.proofs.Cases.{by_order, by_same}
use Rattle.groupings.specs.Order.{Ordered, Agree, Less, AtMost}
use Rattle.groupings.specs.Following.{Follows, Final}
use Rattle.groupings.proofs.Appearance.{top_same}

by_three : {P : Type 0} (i j : ℕ) → (i < j → P) → (i ≡ j → P) → (j < i → P) → P
by_three i j before same after = by_order i j before (λ l. by_order j i after (λ m. same (omega arith)))

more : (m : ℕ) (a b : ℕ → ℕ) → Agree m a b → a m ≡ b m → Agree (suc m) a b
more m a b e q j l = by_same j m (λ r. subst (λ (x : ℕ). a x ≡ b x) (sym r) q) (λ r. e j (omega (arith, r)))

-- From a place on, no region is above the other grouping's.
ladder : (n : ℕ) (a b : ℕ → ℕ) (d m : ℕ) → m + d ≡ n → Agree m a b → ((j : ℕ) → m ≤ j → j < n → a j ≤ b j) → AtMost n a b
ladder n a b zero m e g le = inl (λ j l. g j (omega arith))
ladder n a b (suc d) m e g le =
    by_order (a m) (b m)
    (λ x. inr (record { place = m; inside = omega arith; agree = g; less = x }))
    (λ x.
    ladder n a b d (suc m) (omega arith) (more m a b g (omega (arith, le m (omega arith) (omega arith)))) (λ j y z. le j (omega arith) z))

compare_from : (n : ℕ) (a b : ℕ → ℕ) (d m : ℕ) → m + d ≡ n → Agree m a b → AtMost n a b ⊎ Less n b a
compare_from n a b zero m e g = inl (inl (λ j l. g j (omega arith)))
compare_from n a b (suc d) m e g =
    by_three (a m) (b m)
    (λ x. inl (inr (record { place = m; inside = omega arith; agree = g; less = x })))
    (λ x. compare_from n a b d (suc m) (omega arith) (more m a b g x))
    (λ x. inr (record { place = m; inside = omega arith; agree = λ j l. sym (g j l); less = x }))

compare : (n : ℕ) (a b : ℕ → ℕ) → AtMost n a b ⊎ Less n b a
compare n a b = compare_from n a b n 0 (omega arith) (λ j l. absurd (omega arith))

not_both : (n : ℕ) (a b : ℕ → ℕ) → AtMost n a b → Less n b a → ⊥
not_both n a b (inl e) l = let x = l.less in omega (arith, e l.place l.inside)
not_both n a b (inr k) l =
    by_three k.place l.place
    (λ x. let y = k.less in omega (arith, l.agree k.place x))
    (λ x. let y = k.less in let z : b k.place < a k.place = rw x l.less in omega arith)
    (λ x. let y = l.less in omega (arith, k.agree l.place x))

-- What is not behind a grouping is before what it is before.
pub less_after : (n : ℕ) (x a b : ℕ → ℕ) → AtMost n x a → Less n a b → Less n x b
less_after n x a b (inl e) l =
    record {
      place = l.place;
      inside = l.inside;
      agree = λ j k. e j (let z = l.inside in omega arith) ∙ l.agree j k;
      less = let z = l.less in omega (arith, e l.place l.inside);
    }
less_after n x a b (inr k) l =
    by_three k.place l.place
    (λ u.
    record {
      place = k.place;
      inside = k.inside;
      agree = λ j i. k.agree j i ∙ l.agree j (omega arith);
      less = let z = k.less in omega (arith, l.agree k.place u);
    })
    (λ e.
    record {
      place = k.place;
      inside = k.inside;
      agree = λ j i. k.agree j i ∙ l.agree j (omega arith);
      less = let z = k.less in let y : a k.place < b k.place = rw e l.less in omega arith;
    })
    (λ w.
    record {
      place = l.place;
      inside = l.inside;
      agree = λ j i. k.agree j (omega arith) ∙ l.agree j i;
      less = let z = l.less in omega (arith, k.agree l.place w);
    })

module _ (n : ℕ) (a b : ℕ → ℕ) (f : Follows n a b) where
  pub follow_ordered : Ordered n a → Ordered n b
  follow_ordered r j l =
      by_three j f.place
      (λ x. omega (arith, f.below j x, r j l, top_same b a j (λ i k. f.below i (omega arith))))
      (λ x. rw x (let y = f.room in omega (arith, f.raised, top_same b a f.place f.below)))
      (λ x. omega (arith, f.zeros j x l))

  pub follow_after : Less n a b
  follow_after =
      record { place = f.place; inside = f.inside; agree = λ j l. sym (f.below j l); less = let q = f.raised in omega arith }

  -- No grouping lies between.
  follow_covers : (x : ℕ → ℕ) → Ordered n x → Less n a x → AtMost n b x
  follow_covers x r l =
      by_three l.place f.place
      (λ y.
      inr (record {
        place = l.place;
        inside = l.inside;
        agree = λ j k. f.below j (omega arith) ∙ l.agree j k;
        less = let z = l.less in omega (arith, f.below l.place y);
      }))
      (λ y.
      ladder n b x (n - f.place) f.place (let z = f.inside in omega arith) (λ j k. f.below j k ∙ l.agree j (omega arith)) (λ j k m.
      by_same j f.place
      (λ q. rw q (let z : a f.place < x f.place = rw (sym y) l.less in omega (arith, f.raised)))
      (λ q. omega (arith, f.zeros j (omega (arith, q)) m))))
      (λ y.
      let z = l.less in
      absurd (omega (arith, f.last l.place y l.inside, r l.place l.inside, top_same a x l.place l.agree)))

final_covers : (n : ℕ) (a x : ℕ → ℕ) → Final n a → Ordered n x → Less n a x → ⊥
final_covers n a x f r l =
    let z = l.less in
    omega (arith, f l.place l.inside, r l.place l.inside, top_same a x l.place l.agree)

-- Q holds of every grouping before a.
abbrev pub Passed : ℕ → ((ℕ → ℕ) → Type 0) → (ℕ → ℕ) → Type 0
Passed n Q a = (x : ℕ → ℕ) → Ordered n x → Less n x a → Q x

-- What a loop over the groupings shows: Q of every one, if it is shown of each in turn.
module _ (n : ℕ) (Q : (ℕ → ℕ) → Type 0) (only : (a b : ℕ → ℕ) → Agree n a b → Q a → Q b) where
  pub passed_none : (a : ℕ → ℕ) → ((j : ℕ) → j < n → a j ≡ 0) → Passed n Q a
  passed_none a z x r l = let y = l.less in absurd (omega (arith, z l.place l.inside))

  pub passed_more : (a b : ℕ → ℕ) → Follows n a b → Passed n Q a → Q a → Passed n Q b
  passed_more a b f p q x r l = at (compare n a x)
    where
      at : AtMost n a x ⊎ Less n x a → Q x
      at (inl (inl e)) = only a x e q
      at (inl (inr k)) = absurd (not_both n b x (follow_covers n a b f x r k) l)
      at (inr k) = p x r k

  pub passed_all : (a : ℕ → ℕ) → Final n a → Passed n Q a → Q a → (x : ℕ → ℕ) → Ordered n x → Q x
  passed_all a f p q x r = at (compare n a x)
    where
      at : AtMost n a x ⊎ Less n x a → Q x
      at (inl (inl e)) = only a x e q
      at (inl (inr k)) = absurd (final_covers n a x f r k)
      at (inr k) = p x r k

-- A grouping as a number, which rises: the loop ends.
unfoldable pub value : (ℕ → ℕ) → ℕ → ℕ
value a zero = 0
value a (suc n) = value a n * 8 + a n

value_same : (a b : ℕ → ℕ) (n : ℕ) → Agree n a b → value a n ≡ value b n
unfolding value
value_same a b zero e = refl
value_same a b (suc n) e = omega (arith, value_same a b n (λ j l. e j (omega arith)), e n (omega arith))

pub value_small : (a : ℕ → ℕ) (n : ℕ) → ((j : ℕ) → j < n → a j < 8) → value a n < 8 ^ n
unfolding value
value_small a zero s = omega arith
value_small a (suc n) s = omega (arith, value_small a n (λ j l. s j (omega arith)), s n (omega arith), pow-suc 8 n)

pub value_rises : (a b : ℕ → ℕ) (n : ℕ) → ((j : ℕ) → j < n → a j < 8) → Less n a b → value a n < value b n
unfolding value
value_rises a b zero s l = let x = l.inside in absurd (omega arith)
value_rises a b (suc n) s l =
    by_same l.place n
    (λ q.
    let z : a n < b n = rw (sym q) l.less in
    omega (arith, value_same a b n (λ j m. l.agree j (omega arith))))
    (λ q.
    let k : Less n a b = record { place = l.place; inside = let y = l.inside in omega (arith, q); agree = l.agree; less = l.less } in
    omega (arith, value_rises a b n (λ j m. s j (omega arith)) k, s n (omega arith)))
