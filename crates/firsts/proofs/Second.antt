-- Simulated cycles are at most the second total, on every walk. First for any price of a visit without its load that is at most what its vertex is charged
-- without it, then in document 01's terms.
use Prim.Native.Nat.{ℕ, ◌+◌, ◌≤◌, ◌<◌}
use native.Mathlib.Omega.{arith}
use mathlib.Core.Path.{◌≡◌, refl}
use mathlib.Core.Bool.{Bool, true, false, cond, not, ◌&&◌}
use mathlib.Core.List.{List, [], ◌∷◌, Memᴰ}
use lib.Dec.{eqb}
use borrow.Author.Tests.{eq-eqb}
use Rattle.model.specs.declared.Loop.{Loop}
use Rattle.model.specs.declared.Problem.{Problem}
use Rattle.model.specs.Graph.{holds, loops_of}
use Rattle.model.specs.Costs.{function_of, total}
use Rattle.model.specs.Walks.{EdgeOf, Walk, start, step, visits, sum, entering, weights}
use Rattle.model.specs.Interference.{occurs, Early}
use Rattle.model.specs.Charges.{Told, outside, outermost, visit_charge, first_loads, second_charge, holds_early, entry_charge, second_total}
use Rattle.model.specs.Runs.{hit, cycles}
use Rattle.model.proofs.Cases.{by_bool}
use Rattle.model.proofs.Search.{exists_at}
use Rattle.sound.proofs.Sums.{total_mono, total_gain}
use Rattle.sound.proofs.Sound.{price, fee, Fair, missed, cycles_price, fair_cycles}
use Rattle.greatest.proofs.Loops.{holds_from}
use Rattle.greatest.proofs.Sums.{sum_none, sum_le, sum_le_at}
use Rattle.greatest.proofs.Stays.{visits_out}
use Rattle.greatest.proofs.Weights.{entering_new}
use Rattle.greatest.proofs.Rules.{Rules, Order}
use Rattle.firsts.proofs.Outermost.{outer_of}

-- What is still due: less after a visit, and never more than all.
less : (b o h : Bool) (x : ℕ) → cond (b && not (cond h true o)) x 0 ≤ cond (b && not o) x 0
less true true true x = omega arith
less true true false x = omega arith
less true false true x = omega arith
less true false false x = omega arith
less false o h x = omega arith

most : (b o : Bool) (x : ℕ) → cond (b && not o) x 0 ≤ cond b x 0
most true true x = omega arith
most true false x = omega arith
most false o x = omega arith

-- `brings l f` tells that loop l holds an early vertex of f.
module _
    {fn own load region : ℕ → ℕ} {Edge : ℕ → ℕ → Type 0} {ls : List Loop} {n functions : ℕ} {toll : ℕ → List ℕ → ℕ} {contested early : ℕ → Bool}
    (brings : Loop → ℕ → Bool) (R : Rules Edge ls) (O : Order Edge ls n) (fair : Fair fn own load region Edge functions toll contested)
    (early_all : (v : ℕ) → Early fn Edge region v → early v ≡ true)
    (brought : (v : ℕ) (h : List ℕ) (l : Loop) → Walk Edge v h → holds l v ≡ true → early v ≡ true → brings l (fn v) ≡ true) where
  -- The charges.
  abbrev c : ℕ → ℕ
  c v = fee fn load own contested v + cond (outside ls v && early v) (load (fn v)) 0

  abbrev e : Loop → ℕ
  e l = cond (outermost ls l) (total functions (λ f. cond (brings l f) (load f) 0)) 0

  -- What an outermost loop has paid, on entry, for functions that h has not visited.
  spare : List ℕ → Loop → ℕ → ℕ
  spare h l f = cond (brings l f && not (occurs fn f h)) (load f) 0

  rest : List ℕ → Loop → ℕ
  rest h l = cond (outermost ls l) (total functions (spare h l)) 0

  ahead : ℕ → List ℕ → Loop → ℕ
  ahead v h l = cond (holds l v) (rest h l) 0

  rest_most : (h : List ℕ) (l : Loop) → rest h l ≤ e l
  unfolding rest spare
  rest_most h l = go (outermost ls l)
    where
      go : (b : Bool) → cond b (total functions (spare h l)) 0 ≤ cond b (total functions (λ f. cond (brings l f) (load f) 0)) 0
      go true = total_mono (spare h l) (λ f. cond (brings l f) (load f) 0) (λ f. most (brings l f) (occurs fn f h) (load f)) functions
      go false = omega arith

  rest_less : (v : ℕ) (h : List ℕ) (l : Loop) → rest (v ∷ h) l ≤ rest h l
  unfolding rest spare occurs
  rest_less v h l = go (outermost ls l)
    where
      go : (b : Bool) → cond b (total functions (spare (v ∷ h) l)) 0 ≤ cond b (total functions (spare h l)) 0
      go true = total_mono (spare (v ∷ h) l) (spare h l) (λ f. less (brings l f) (occurs fn f h) (eqb (fn v) f) (load f)) functions
      go false = omega arith

  -- A first visit uses what was paid.
  rest_used : (v : ℕ) (h : List ℕ) (l : Loop) → Walk Edge v h → outermost ls l ≡ true → holds l v ≡ true → early v ≡ true → occurs fn (fn v) h ≡ false
      → rest (v ∷ h) l + load (fn v) ≤ rest h l
  unfolding rest spare occurs
  rest_used v h l t o g a f = rw o (total_gain (spare (v ∷ h) l) (spare h l)
      (λ f. less (brings l f) (occurs fn f h) (eqb (fn v) f) (load f)) (fn v) (load (fn v)) at functions (fair.function v h t))
    where
      at : spare (v ∷ h) l (fn v) + load (fn v) ≤ spare h l (fn v)
      at = rw (brought v h l t g a, f, eq-eqb (fn v) (fn v) refl) (omega arith)

  -- One visit.
  module _ (v : ℕ) (h : List ℕ) (old : Loop → ℕ) (t : Walk Edge v h)
      (kept_up : (l : Loop) → Memᴰ l ls → holds l v ≡ true → rest h l ≤ old l + entering e v h l)
      (r : price fn load region toll h + sum old ls ≤ weights ls c e h) where
    each : (l : Loop) → Memᴰ l ls → ahead v (v ∷ h) l ≤ old l + entering e v h l
    unfolding ahead
    each l i =
        by_bool (holds l v)
        (λ g. rw g (omega (arith, kept_up l i g, rest_less v h l)))
        (λ g. rw g (omega arith))

    visit : price fn load region toll (v ∷ h) + sum (ahead v (v ∷ h)) ls ≤ weights ls c e (v ∷ h)
    unfolding price weights ahead
    visit = at (hit fn region v h) refl (contested v) refl
      where
        x : ℕ
        x = load (fn v)

        W : ℕ
        W = weights ls c e h + sum (entering e v h) ls

        plain : sum (ahead v (v ∷ h)) ls ≤ sum old ls + sum (entering e v h) ls
        plain = sum_le (ahead v (v ∷ h)) old (entering e v h) ls each

        first : contested v ≡ false → (occurs fn (fn v) h ≡ false) × (early v ≡ true)
            → price fn load region toll h + (toll v h + x) + sum (ahead v (v ∷ h)) ls ≤ W + (own v + 0 + cond (outside ls v && early v) x 0)
        first k m =
            by_bool (outside ls v)
            (λ o. rw (o, m.1) (omega (arith, plain, fair.cheap v h t)))
            (λ o.
            let (l, i, g, z) = outer_of O v o in
            omega (
              arith,
              fair.cheap v h t,
              sum_le_at (ahead v (v ∷ h)) old (entering e v h) x i each
                  (rw g (omega (arith, rest_used v h l t z g m.1 m.0, kept_up l i g))),
            ))

        at : (a : Bool) → hit fn region v h ≡ a → (k : Bool) → contested v ≡ k
            → price fn load region toll h + (toll v h + cond a 0 x) + sum (ahead v (v ∷ h)) ls ≤ W + (own v + cond k x 0 + cond (outside ls v && early v) x 0)
        at true q k z = omega (arith, plain, fair.cheap v h t)
        at false q true z = omega (arith, plain, fair.cheap v h t)
        at false q false z = let (fresh, is) = missed fair v h t z q in first z (fresh, early_all v is)

  so_far : {v : ℕ} {h : List ℕ} → Walk Edge v h → price fn load region toll (v ∷ h) + sum (ahead v (v ∷ h)) ls ≤ weights ls c e (v ∷ h)
  unfolding price weights visits ahead
  so_far start =
      visit 0 [] (λ l. 0) start
      (λ l i g. let y = holds_from l 0 g in omega (arith, rest_most [] l, entering_new e 0 [] l (omega arith) refl))
      (omega (arith, sum_none (λ l. 0) ls (λ l i. omega arith)))
  so_far (step {u} {v} {h} t d) = visit v (u ∷ h) (ahead u (u ∷ h)) (step t d) on (so_far t)
    where
      on : (l : Loop) → Memᴰ l ls → holds l v ≡ true → rest (u ∷ h) l ≤ ahead u (u ∷ h) l + entering e v (u ∷ h) l
      on l i g =
          by_bool (holds l u)
          (λ a. rw a (omega arith))
          (λ a. omega (arith, rest_most (u ∷ h) l, entering_new e v (u ∷ h) l (R.enter u v l d i g a) (visits_out l u h a)))

  pub covered_second : {v : ℕ} {h : List ℕ} → Walk Edge v h → price fn load region toll (v ∷ h) ≤ weights ls c e (v ∷ h)
  covered_second t = omega (arith, so_far t)

-- In the documents' terms.
module _ (p : Problem) (layout : List ℕ) where
  brings_early : (early : ℕ → Bool) (v : ℕ) (l : Loop) → v < p.vertex_count → holds l v ≡ true → early v ≡ true → holds_early p early l (function_of p v) ≡ true
  unfolding holds_early
  brings_early early v l below g a =
      exists_at p.vertex_count (λ w. holds l w && (eqb (function_of p w) (function_of p v) && early w)) v below
      (rw (g, eq-eqb (function_of p v) (function_of p v) refl, a))

  pub cycles_second :
      (contested early cold : ℕ → Bool) {n : ℕ} → Told p layout contested early cold → Rules (EdgeOf p) (loops_of p) → Order (EdgeOf p) (loops_of p) n →
      ((v : ℕ) (h : List ℕ) → Walk (EdgeOf p) v h → v < p.vertex_count) →
      ((v : ℕ) (h : List ℕ) → Walk (EdgeOf p) v h → function_of p v < p.function_count) →
      {v : ℕ} {h : List ℕ} → Walk (EdgeOf p) v h → cycles p layout (v ∷ h) ≤ second_total p contested early (v ∷ h)
  unfolding visit_charge first_loads second_charge entry_charge
  cycles_second contested early cold told R O vertex function {v} {h} t =
      rw (cycles_price p layout (v ∷ h))
      (covered_second (holds_early p early) R O (fair_cycles p layout contested early cold told function) told.early_all
      (λ v h l t g a. brings_early early v l (vertex v h t) g a) t)
