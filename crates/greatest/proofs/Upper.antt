-- No lawful walk weighs more than the numbers say.
use Prim.Native.Nat.{ℕ, suc, ◌+◌, ◌≤◌, min}
use mathlib.Core.Path.{◌≡◌, refl}
use mathlib.Core.List.{List, [], ◌∷◌, Memᴰ}
use mathlib.Core.Bool.{true, false}
use mathlib.Core.Logic.{◌⊎◌, inl, inr}
use native.Mathlib.Omega.{arith}
use lib.Dec.{eqb}
use borrow.Author.Tests.{eqb-true, eqb-false}
use Rattle.model.specs.declared.Loop.{Loop}
use Rattle.model.specs.Graph.{holds}
use Rattle.model.specs.Walks.{Walk, start, step, visits, Within, sum, entering, weights}
use Rattle.model.proofs.Cases.{by_bool}
use Rattle.greatest.specs.Numbers.{left, leave, NoHeader}
use Rattle.greatest.proofs.Loops.{header?}
use Rattle.greatest.proofs.Sums.{sum_none, sum_at, sum_le, sum_le_at}
use Rattle.greatest.proofs.Stays.{visits_out, visits_head, visits_up, within_all}
use Rattle.greatest.proofs.Weights.{tally, tally_new, tally_on, tally_all, Since, since_below}
use Rattle.greatest.proofs.Weights.{entering_stayed, entering_most, enters_one, enters_none}
use Rattle.greatest.proofs.Rules.{Rules, held_head, ascends, stayed, since_back}
use Rattle.greatest.proofs.Levels.{High}
use Rattle.greatest.proofs.Terms.{stay_at, stay_out, stay_in, stay_step, turn_more}

module _ {Edge : ℕ → ℕ → Type 0} {ls : List Loop} {c : ℕ → ℕ} {e : Loop → ℕ} {D : ℕ → ℕ} {E T : Loop → ℕ} {cap : ℕ}
    (R : Rules Edge ls) (H : High Edge ls c e D E T cap) (s : ℕ) where
  -- One step of the walk.
  module _ (u v : ℕ) (h : List ℕ) (t : Walk Edge u h) (d : Edge u v) (w : Within ls (u ∷ h)) (low : s ≤ v) where
    terms : (l : Loop) → Memᴰ l ls → stay_at s E T u h l ≤ left E T u v l + stay_at s E T v (u ∷ h) l
    terms l i =
        stay_step E T u v l s (λ a. visits a (u ∷ h)) (λ a. visits a (v ∷ u ∷ h)) (within_all ls (u ∷ h) w l i) (λ p q. visits_up l v (u ∷ h) q)

    at_entry : (l : Loop) → l.header ≡ v → holds l v ≡ true → holds l u ≡ false → stay_at s E T v (u ∷ h) l ≡ E l
    at_entry l q g f =
        rw (stay_in s E T (λ a. visits a (v ∷ u ∷ h)) v l (omega arith) g, visits_head l v (u ∷ h) g q, visits_out l u h f) (omega arith)

    at_again : (l : Loop) → Memᴰ l ls → l.header ≡ v → holds l v ≡ true → holds l u ≡ true → stay_at s E T u h l + T l ≤ stay_at s E T v (u ∷ h) l
    at_again l i q g f =
        rw (
          stay_in s E T (λ a. visits a (u ∷ h)) u l (omega arith) f,
          stay_in s E T (λ a. visits a (v ∷ u ∷ h)) v l (omega arith) g,
          visits_head l v (u ∷ h) g q,
        ) (turn_more (visits l (u ∷ h)) (T l) (E l) (stayed R t l i f))

    abbrev Step : Type 0
    Step = min cap (tally ls c e s (u ∷ h) + sum (entering e v (u ∷ h)) ls + c v) ≤ D v + sum (stay_at s E T v (u ∷ h)) ls

    module _ (r : min cap (tally ls c e s (u ∷ h)) ≤ D u + sum (stay_at s E T u h) ls) where
      to_inner : NoHeader ls v → Step
      unfolding leave
      to_inner f =
          omega (
            arith,
            sum_le (stay_at s E T u h) (left E T u v) (stay_at s E T v (u ∷ h)) ls terms,
            enters_none e v (u ∷ h) f,
            H.inner u v d (ascends R u v d f) f,
          )

      to_header : (l : Loop) → Memᴰ l ls → l.header ≡ v → holds l u ≡ true → Step
      unfolding leave
      to_header l i q f =
          let g = at_again l i q (held_head R v l i q) f in
          omega (
            arith,
            H.again u v l d i q f,
            H.head v l i q,
            enters_one e v (u ∷ h) R.ascend i q,
            entering_stayed e v (u ∷ h) l (stayed R t l i f),
            sum_at (stay_at s E T v (u ∷ h)) i,
            sum_le_at (stay_at s E T u h) (left E T u v) (stay_at s E T v (u ∷ h)) (T l) i terms (omega arith),
          )

      to_entry : (l : Loop) → Memᴰ l ls → l.header ≡ v → holds l u ≡ false → Step
      unfolding leave
      to_entry l i q f =
          let g = at_entry l q (held_head R v l i q) f in
          let n = stay_out s E T (λ a. visits a (u ∷ h)) u l f in
          omega (
            arith,
            H.entry u v l d i q f,
            H.head v l i q,
            enters_one e v (u ∷ h) R.ascend i q,
            entering_most e v (u ∷ h) l,
            sum_at (stay_at s E T v (u ∷ h)) i,
            sum_le_at (stay_at s E T u h) (left E T u v) (stay_at s E T v (u ∷ h)) (E l) i terms (omega arith),
          )

      move : Step
      move = go (header? v ls)
        where
          go : ((l : Loop) × Memᴰ l ls × (l.header ≡ v)) ⊎ NoHeader ls v → Step
          go (inl (l, i, q)) = by_bool (holds l u) (to_header l i q) (to_entry l i q)
          go (inr f) = to_inner f

  -- At the start.
  begins : s ≤ 0 → min cap (tally ls c e s [] + sum (entering e 0 []) ls + c 0) ≤ D 0 + sum (stay_at s E T 0 []) ls
  unfolding tally
  begins z = go (header? 0 ls)
    where
      go : ((l : Loop) × Memᴰ l ls × (l.header ≡ 0)) ⊎ NoHeader ls 0
          → min cap (0 + sum (entering e 0 []) ls + c 0) ≤ D 0 + sum (stay_at s E T 0 []) ls
      go (inl (l, i, q)) =
          omega (
            arith,
            H.first,
            H.begin l i q,
            enters_one e 0 [] R.ascend i q,
            entering_most e 0 [] l,
            sum_at (stay_at s E T 0 []) i,
            stay_in s E T (λ a. visits a (0 ∷ [])) 0 l (omega arith) (held_head R 0 l i q),
          )
      go (inr f) = omega (arith, H.first, enters_none e 0 [] f)

  -- Where the tally begins anew.
  anew : (v : ℕ) → Since ls s v → s ≡ suc v → min cap (c v) ≤ D v
  anew v (inl z) p = absurd (omega arith)
  anew v (inr (l, i, g, q)) p = H.head v l i (omega arith)

  pub upper : {v : ℕ} {h : List ℕ} → Walk Edge v h → Within ls (v ∷ h) → Since ls s v
      → min cap (tally ls c e s (v ∷ h)) ≤ D v + sum (stay_at s E T v h) ls
  unfolding Within
  upper start w b =
      by_bool (eqb s 1)
      (λ z. omega (arith, tally_new ls c e s 0 [] (eqb-true s 1 z), H.first))
      (λ z. let y = eqb-false s 1 z in omega (arith, tally_on ls c e s 0 [] y, begins (since_below b y)))
  upper (step {u} {v} {h} t d) w b =
      by_bool (eqb s (suc v))
      (λ z. let y = eqb-true s (suc v) z in omega (arith, tally_new ls c e s v (u ∷ h) y, anew v b y))
      (λ z.
      let y = eqb-false s (suc v) z in
      omega (arith, tally_on ls c e s v (u ∷ h) y, move u v h t d w.1 (since_below b y) (upper t w.1 (since_back R d b y))))

-- At a vertex outside all ranges.
module _ {Edge : ℕ → ℕ → Type 0} {ls : List Loop} {c : ℕ → ℕ} {e : Loop → ℕ} {D : ℕ → ℕ} {E T : Loop → ℕ} {cap : ℕ}
    (R : Rules Edge ls) (H : High Edge ls c e D E T cap) where
  pub upper_last : {v : ℕ} {h : List ℕ} → Walk Edge v h → Within ls (v ∷ h) → ((l : Loop) → Memᴰ l ls → holds l v ≡ false)
      → min cap (weights ls c e (v ∷ h)) ≤ D v
  upper_last {v} {h} t w f =
      omega (
        arith,
        tally_all ls c e (v ∷ h),
        upper R H 0 t w (inl refl),
        sum_none (stay_at 0 E T v h) ls (λ l i. omega (arith, stay_out 0 E T (λ l. visits l (v ∷ h)) v l (f l i))),
      )
