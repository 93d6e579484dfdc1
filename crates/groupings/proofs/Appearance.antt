-- Regions numbered by first appearance: every layout is alike to exactly one grouping.
use Prim.Native.Nat.{ℕ, zero, suc, ◌+◌, ◌≤◌, ◌<◌, max}
use native.Mathlib.Omega.{arith}
use mathlib.Core.Path.{◌≡◌, refl, sym, ap, ◌∙◌, subst}
use mathlib.Core.Bool.{cond}
use lib.Dec.{eqb}
use borrow.Author.Tests.{lt-ltb, eqb-true, eq-eqb, ne_eqb}
use Rattle.model.specs.Costs.{total, largest, how_many}
use Rattle.model.specs.Best.{top, leader, appearance}
use Rattle.model.proofs.Cases.{by_order, by_same, true_not_false}
use Rattle.model.proofs.Search.{lowest_within, lowest_passes, below_lowest}
use Rattle.groupings.specs.Order.{Alike, Ordered}

pub top_same : (a b : ℕ → ℕ) (n : ℕ) → ((i : ℕ) → i < n → a i ≡ b i) → top a n ≡ top b n
unfolding top largest
top_same a b zero e = refl
top_same a b (suc n) e = omega (arith, top_same a b n (λ i l. e i (omega arith)), e n (omega arith))

pub top_most : (a : ℕ → ℕ) (n : ℕ) → Ordered n a → top a n ≤ n
unfolding top largest
top_most a zero r = omega arith
top_most a (suc n) r = omega (arith, r n (omega arith), top_most a n (λ i l. r i (omega arith)))

-- Every number below the top is in use.
top_hit : (a : ℕ → ℕ) (n : ℕ) → Ordered n a → (c : ℕ) → c < top a n → (i : ℕ) × (i < n) × (a i ≡ c)
unfolding top largest
top_hit a zero r c l = absurd (omega arith)
top_hit a (suc n) r c l =
    by_same (a n) c
    (λ q. (n, omega arith, q))
    (λ q. let (i, k, e) = top_hit a n (λ i k. r i (omega arith)) c (omega (arith, q, r n (omega arith))) in (i, omega arith, e))

-- Two groupings that are alike are the same.
module _ (m : ℕ) (a b : ℕ → ℕ) (s : Alike m a b) (r : Ordered m a) (t : Ordered m b) where
  -- The next function's region is one before it in both, or new in both.
  next_same : (n : ℕ) → n < m → ((i : ℕ) → i < n → a i ≡ b i) → a n ≡ b n
  next_same n l same =
      by_order (a n) (top a n)
      (λ x.
      let (j, z, e) = top_hit a n (λ j z. r j (omega arith)) (a n) x in
      omega (arith, same j z, s.to j n (omega arith) l e))
      (λ x.
      by_order (b n) (top b n)
      (λ y.
      let (j, z, e) = top_hit b n (λ j z. t j (omega arith)) (b n) y in
      omega (arith, same j z, s.from j n (omega arith) l e))
      (λ y. omega (arith, r n l, t n l, top_same a b n same)))

  pub grouping_one : (n : ℕ) → n ≤ m → (i : ℕ) → i < n → a i ≡ b i
  grouping_one zero l i k = absurd (omega arith)
  grouping_one (suc n) l i k =
      by_same i n
      (λ q. subst (λ (x : ℕ). a x ≡ b x) (sym q) (next_same n (omega arith) (grouping_one n (omega arith))))
      (λ q. grouping_one n (omega arith) i (omega (arith, q)))

module _ (a : ℕ → ℕ) where
  leader_le : (f : ℕ) → leader a f ≤ f
  unfolding leader
  leader_le f = lowest_within f (λ g. eqb (a g) (a f))

  leader_is : (f : ℕ) → a (leader a f) ≡ a f
  unfolding leader
  leader_is f =
      by_order (leader a f) f
      (λ l. eqb-true (a (leader a f)) (a f) (lowest_passes f (λ g. eqb (a g) (a f)) (lt-ltb (leader a f) f l)))
      (λ l. let q : leader a f ≡ f = omega (arith, leader_le f) in ap a q)

  leader_min : (f g : ℕ) → a g ≡ a f → leader a f ≤ g
  unfolding leader
  leader_min f g e =
      by_order g (leader a f)
      (λ l. true_not_false (sym (eq-eqb (a g) (a f) e) ∙ below_lowest f (λ k. eqb (a k) (a f)) g (omega (arith, leader_le f)) l))
      (λ l. l)

  -- How many of the first n functions lead: the regions that appear before n.
  abbrev leaders : ℕ → ℕ
  leaders n = how_many n (λ g. eqb (leader a g) g)

  leaders_more : (m n : ℕ) → m ≤ n → leaders m ≤ leaders n
  unfolding total
  leaders_more m zero l = let q : m ≡ 0 = omega arith in rw q (omega arith)
  leaders_more m (suc n) l =
      by_same m (suc n)
      (λ q. rw q (omega arith))
      (λ q. omega (arith, leaders_more m n (omega (arith, q))))

  leads : (f : ℕ) → leader a f ≡ f → leaders (suc f) ≡ suc (leaders f)
  unfolding total
  leads f e = rw (eq-eqb (leader a f) f e) (omega arith)

  follows : (f : ℕ) → (leader a f ≡ f → ⊥) → leaders (suc f) ≡ leaders f
  unfolding total
  follows f e = rw (ne_eqb (leader a f) f e) (omega arith)

  leader_leads : (f : ℕ) → leader a (leader a f) ≡ leader a f
  leader_leads f = omega (arith, leader_le (leader a f), leader_min f (leader a (leader a f)) (leader_is (leader a f) ∙ leader_is f))

  shared_to : (f g : ℕ) → a f ≡ a g → appearance a f ≡ appearance a g
  unfolding appearance
  shared_to f g e =
      let q : leader a f ≡ leader a g = omega (arith, leader_min f (leader a g) (leader_is g ∙ sym e), leader_min g (leader a f) (leader_is f ∙ e)) in
      ap leaders q

  earlier : (f g : ℕ) → leader a f < leader a g → appearance a f < appearance a g
  unfolding appearance
  earlier f g l = omega (arith, leads (leader a f) (leader_leads f), leaders_more (suc (leader a f)) (leader a g) l)

  shared_from : (f g : ℕ) → appearance a f ≡ appearance a g → a f ≡ a g
  shared_from f g e =
      by_order (leader a f) (leader a g)
      (λ x. absurd (omega (arith, earlier f g x)))
      (λ x.
      by_order (leader a g) (leader a f)
      (λ y. absurd (omega (arith, earlier g f y)))
      (λ y. let q : leader a f ≡ leader a g = omega arith in sym (leader_is f) ∙ ap a q ∙ leader_is g))

  appearance_top : (n : ℕ) → top (appearance a) n ≡ leaders n
  unfolding top largest appearance total
  appearance_top zero = refl
  appearance_top (suc n) =
      by_same (leader a n) n
      (λ q. omega (arith, appearance_top n, leads n q, ap leaders q))
      (λ q.
      omega (
        arith,
        appearance_top n,
        follows n q,
        leads (leader a n) (leader_leads n),
        leaders_more (suc (leader a n)) n (omega (arith, q, leader_le n)),
      ))

  pub appearance_ordered : (n : ℕ) → Ordered n (appearance a)
  unfolding appearance
  appearance_ordered n f l = omega (arith, appearance_top f, leaders_more (leader a f) f (leader_le f))

  pub appearance_alike : (n : ℕ) → Alike n a (appearance a)
  appearance_alike n = record { to = λ f g l m e. shared_to f g e; from = λ f g l m e. shared_from f g e }
