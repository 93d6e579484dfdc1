-- Laws of what a walk weighs, a vertex at each visit and a loop at each entry: all of it, or since the latest visit to some vertex.
use Prim.Native.Nat.{ℕ, suc, ◌+◌, ◌≤◌, ◌<◌}
use mathlib.Core.Path.{◌≡◌, refl, sym, ◌∙◌}
use mathlib.Core.List.{List, [], ◌∷◌, Memᴰ}
use mathlib.Core.Bool.{Bool, true, false, cond}
use mathlib.Core.Logic.{◌⊎◌, inl, inr}
use native.Mathlib.Omega.{arith}
use lib.Dec.{eqb}
use borrow.Author.Tests.{eq-eqb, ne_eqb}
use Rattle.model.specs.declared.Loop.{Loop}
use Rattle.model.specs.Graph.{holds}
use Rattle.model.specs.Walks.{Walk, start, step, visits, sum, entering, weights}
use Rattle.model.specs.Charges.{charges}
use Rattle.greatest.specs.Numbers.{NoHeader}
use Rattle.greatest.proofs.Loops.{holds_from, Ascend}
use Rattle.greatest.proofs.Sums.{sum_none, sum_one, sum_same}

module _ (ls : List Loop) (c : ℕ → ℕ) (e : Loop → ℕ) where
  -- What a walk weighs since the latest visit to the vertex before s, that visit's own weight included; for s = 0, since the start.
  unfoldable pub tally : ℕ → List ℕ → ℕ
  tally s [] = 0
  tally s (v ∷ h) = cond (eqb (suc v) s) (c v) (tally s h + sum (entering e v h) ls + c v)

-- s is where the tally at v may begin: the start, or the present iteration of a loop that holds v.
abbrev pub Since : List Loop → ℕ → ℕ → Type 0
Since ls s v = (s ≡ 0) ⊎ ((l : Loop) × Memᴰ l ls × (holds l v ≡ true) × (s ≡ suc l.header))

pub since_below : {s v : ℕ} {ls : List Loop} → Since ls s v → (s ≡ suc v → ⊥) → s ≤ v
since_below (inl z) f = omega arith
since_below {v = v} (inr (l, i, e, q)) f = let p = holds_from l v e in omega (arith, f)

module _ (e : Loop → ℕ) (v : ℕ) (h : List ℕ) (l : Loop) where
  pub entering_other : (l.header ≡ v → ⊥) → entering e v h l ≡ 0
  unfolding entering
  entering_other f = rw (ne_eqb l.header v f)

  pub entering_stayed : 1 ≤ visits l h → entering e v h l ≡ 0
  unfolding entering
  entering_stayed p = go (eqb l.header v)
    where
      go : (b : Bool) → cond b (cond (eqb (visits l h) 0) (e l) 0) 0 ≡ 0
      go true = rw (ne_eqb (visits l h) 0 (λ q. omega arith))
      go false = refl

  pub entering_new : l.header ≡ v → visits l h ≡ 0 → entering e v h l ≡ e l
  unfolding entering
  entering_new p q = rw (eq-eqb l.header v p, q)

  pub entering_most : entering e v h l ≤ e l
  unfolding entering
  entering_most = go (eqb l.header v) (eqb (visits l h) 0)
    where
      go : (a b : Bool) → cond a (cond b (e l) 0) 0 ≤ e l
      go true true = omega arith
      go true false = omega arith
      go false b = omega arith

-- Only the loop that begins at v can be entered there.
module _ (e : Loop → ℕ) (v : ℕ) (h : List ℕ) {ls : List Loop} where
  pub enters_one : {l : Loop} → Ascend ls → Memᴰ l ls → l.header ≡ v → sum (entering e v h) ls ≤ entering e v h l
  enters_one s i q = sum_one (entering e v h) s i (λ m j f. omega (arith, entering_other e v h m (λ z. f (omega arith))))

  pub enters_none : NoHeader ls v → sum (entering e v h) ls ≤ 0
  enters_none f = sum_none (entering e v h) ls (λ l i. omega (arith, entering_other e v h l (f l i)))

module _ (ls : List Loop) (c : ℕ → ℕ) (e : Loop → ℕ) where
  module _ (s v : ℕ) (h : List ℕ) where
    pub tally_new : s ≡ suc v → tally ls c e s (v ∷ h) ≡ c v
    unfolding tally
    tally_new p = rw (eq-eqb (suc v) s (sym p))

    pub tally_on : (s ≡ suc v → ⊥) → tally ls c e s (v ∷ h) ≡ tally ls c e s h + sum (entering e v h) ls + c v
    unfolding tally
    tally_on f = rw (ne_eqb (suc v) s (λ p. f (sym p)))

  pub tally_all : (h : List ℕ) → tally ls c e 0 h ≡ weights ls c e h
  unfolding tally weights
  tally_all [] = refl
  tally_all (v ∷ h) = tally_on 0 v h (λ p. omega arith) ∙ rw (tally_all h)

-- Where entering weighs nothing, a walk weighs its charges.
pub weights_plain : (ls : List Loop) (c : ℕ → ℕ) (e : Loop → ℕ) → ((l : Loop) → Memᴰ l ls → e l ≡ 0) → (h : List ℕ) → weights ls c e h ≡ charges c h
unfolding weights charges
weights_plain ls c e none [] = refl
weights_plain ls c e none (v ∷ h) =
    omega (arith, weights_plain ls c e none h, sum_none (entering e v h) ls (λ l i. omega (arith, entering_most e v h l, none l i)))

-- Where no charge is larger, charges are no more than what a walk weighs.
pub charges_below : (ls : List Loop) (c d : ℕ → ℕ) (e : Loop → ℕ) → ((v : ℕ) → c v ≤ d v) → (h : List ℕ) → charges c h ≤ weights ls d e h
unfolding charges weights
charges_below ls c d e le [] = omega arith
charges_below ls c d e le (v ∷ h) = omega (arith, charges_below ls c d e le h, le v)

-- Weights that agree on all loops, and on the vertices where walks come, are the same of every walk.
module _ {Edge : ℕ → ℕ → Type 0} {n : ℕ} (below : (v : ℕ) (h : List ℕ) → Walk Edge v h → v < n) {ls : List Loop} {c c' : ℕ → ℕ} {e e' : Loop → ℕ}
    (same : (v : ℕ) → v < n → c v ≡ c' v) (same_entry : (l : Loop) → Memᴰ l ls → e l ≡ e' l) where
  entering_same : (v : ℕ) (h : List ℕ) → sum (entering e v h) ls ≡ sum (entering e' v h) ls
  unfolding entering
  entering_same v h = sum_same (entering e v h) (entering e' v h) ls (λ l i. rw (same_entry l i))

  pub weights_same : {v : ℕ} {h : List ℕ} → Walk Edge v h → weights ls c e (v ∷ h) ≡ weights ls c' e' (v ∷ h)
  unfolding weights
  weights_same start = rw (entering_same 0 [], same 0 (below 0 [] start))
  weights_same (step {u} {v} {h} walk edge) = rw (weights_same walk, entering_same v (u ∷ h), same v (below v (u ∷ h) (step walk edge)))
