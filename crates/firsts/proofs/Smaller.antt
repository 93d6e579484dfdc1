-- The smaller of two totals: it is unique, it is the smaller number where a greatest sum exists, and numbers that are kept up to a cap decide it.
use Prim.Native.Nat.{ℕ, ◌+◌, ◌≤◌, ◌<◌, min}
use native.Mathlib.Omega.{arith}
use mathlib.Core.Path.{◌≡◌}
use mathlib.Core.List.{List, ◌∷◌}
use mathlib.Core.Logic.{◌⊎◌, inl, inr}
use Rattle.model.specs.declared.Problem.{Problem}
use Rattle.model.specs.Walks.{last_vertex, Lawful, Greatest, Smaller}
use Rattle.model.proofs.Cases.{by_order}
use Rattle.greatest.specs.Greatest.{GreatestCapped}

module _ (p : Problem) (x : ℕ) (f : List ℕ → ℕ) where
  below : (a b : ℕ) → Smaller p x f a → Smaller p x f b → a ≤ b
  below a b A B = go B.one
    where
      go : (b ≡ x) ⊎ ((h : List ℕ) → Lawful p h → f (last_vertex p ∷ h) ≤ b) → a ≤ b
      go (inl e) = omega (arith, A.most)
      go (inr r) = let (h, w, le) = A.reached in omega (arith, r h w)

  pub smaller_once : (a b : ℕ) → Smaller p x f a → Smaller p x f b → a ≡ b
  smaller_once a b A B = omega (arith, below a b A B, below b a B A)

  -- It is the smaller of two numbers, where the second one exists.
  pub smaller_is_lem : (b s : ℕ) → Smaller p x f b → Greatest p f s → b ≡ min x s
  smaller_is_lem b s B G = go B.one
    where
      go : (b ≡ x) ⊎ ((h : List ℕ) → Lawful p h → f (last_vertex p ∷ h) ≤ b) → b ≡ min x s
      go (inl e) = let (h, w, le) = B.reached in omega (arith, G.above h w)
      go (inr r) = let (h, w, le) = B.reached in let (k, v, is) = G.reached in omega (arith, G.above h w, r k v, B.most)

-- What stays below both sums of each lawful walk stays below the smaller total.
pub below_smaller : (p : Problem) (f g : List ℕ → ℕ) (m first b : ℕ) → Greatest p f m → Smaller p (m + first) g b
    → (n : ℕ) (h : List ℕ) → Lawful p h → n ≤ f (last_vertex p ∷ h) + first → n ≤ g (last_vertex p ∷ h) → n ≤ b
below_smaller p f g m first b G B n h w s t = go B.one
  where
    go : (b ≡ m + first) ⊎ ((h : List ℕ) → Lawful p h → g (last_vertex p ∷ h) ≤ b) → n ≤ b
    go (inl e) = omega (arith, G.above h w)
    go (inr r) = omega (arith, r h w)

-- D and S are the greatest f and g up to a cap, and no walk has less g than f. The bound is the smaller of D + first and S.
module _ (p : Problem) (cap : ℕ) (f g : List ℕ → ℕ) (D S first : ℕ) (F : GreatestCapped p cap f D) (G : GreatestCapped p cap g S)
    (more : (h : List ℕ) → f (last_vertex p ∷ h) ≤ g (last_vertex p ∷ h)) where
  pub ordered : D ≤ S
  ordered =
      by_order S cap
      (λ low.
      let exact : Greatest p g S = G.below low in
      by_order D cap
      (λ small. let (h, w, is) = (F.below small).reached in omega (arith, exact.above h w, more h))
      (λ high. let (h, w, reaches) = F.at high in omega (arith, exact.above h w, more h)))
      (λ high. omega (arith, F.most))

  -- Below the cap D is exact, though S may be at the cap.
  pub greatest_first : min (D + first) S < cap → Greatest p f D
  greatest_first small =
      by_order D cap F.below
      (λ high.
      let (h, w, reaches) = F.at high in
      let exact : Greatest p g S = G.below (omega arith) in
      absurd (omega (arith, exact.above h w, more h)))

  pub smaller_total : min (D + first) S < cap → Smaller p (D + first) g (min (D + first) S)
  smaller_total small = record {
    most = omega arith;
    reached =
        by_order S cap
        (λ low. let (h, w, is) = (G.below low).reached in (h, w, omega arith))
        (λ high. let (h, w, reaches) = G.at high in (h, w, omega arith));
    one =
        by_order S (D + first)
        (λ less. inr (λ h w. let exact : Greatest p g S = G.below (omega arith) in omega (arith, exact.above h w)))
        (λ most. inl (omega arith));
  }

  -- At the cap both totals pass.
  pub first_past : cap ≤ min (D + first) S → (h : List ℕ) × Lawful p h × (cap ≤ f (last_vertex p ∷ h) + first)
  first_past high =
      by_order D cap
      (λ low. let (h, w, is) = (F.below low).reached in (h, w, omega arith))
      (λ over. let (h, w, reaches) = F.at over in (h, w, omega arith))

  pub second_past : cap ≤ min (D + first) S → (h : List ℕ) × Lawful p h × (cap ≤ g (last_vertex p ∷ h))
  second_past high = G.at (omega arith)
