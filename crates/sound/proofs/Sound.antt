-- Simulated cycles are at most visit charges and first loads, on every walk. First for any price of a visit without its load that is at most what its
-- vertex is charged without it, then in document 01's terms.
use Prim.Native.Nat.{ℕ, ◌+◌, ◌≤◌, ◌<◌}
use native.Mathlib.Omega.{arith}
use mathlib.Core.Path.{◌≡◌, refl, sym, ap}
use mathlib.Core.Bool.{Bool, true, false, cond}
use mathlib.Core.List.{List, [], ◌∷◌, Memᴰ}
use lib.Dec.{eqb}
use borrow.Author.Tests.{eqb-true, eq-eqb, ne_eqb}
use Rattle.model.specs.declared.Problem.{Problem}
use Rattle.model.specs.Costs.{function_of, load_cost, total}
use Rattle.model.specs.Walks.{EdgeOf, Walk, start, step}
use Rattle.model.specs.Layouts.{region_of}
use Rattle.model.specs.Interference.{since, occurs, Contested, Early, Cold}
use Rattle.model.specs.Charges.{Told, visit_charge, first_loads, charges}
use Rattle.model.specs.Runs.{held, is_held, hit, cycles}
use Rattle.model.proofs.Cases.{true_not_false}
use Rattle.sound.proofs.Tests.{not_both}
use Rattle.sound.proofs.Sums.{total_mono, total_gain}
use Rattle.sound.proofs.Flow.{since_ne}
use Rattle.sound.proofs.Entered.{toll_of, fixed, cheap}

module _ (fn region : ℕ → ℕ) where
  -- f was visited, and nothing of its region since: its region holds it.
  pub kept :
      (f : ℕ) (h : List ℕ) → occurs fn f h ≡ true →
      ((g : ℕ) → Memᴰ g (since fn f h) → region g ≡ region f → ⊥) →
      is_held fn region (held fn region (region f) h) f ≡ true
  unfolding since occurs held
  kept f [] o apart = true_not_false (sym o)
  kept f (v ∷ h) o apart = at (eqb (fn v) f) refl o apart (λ o' apart'. kept f h o' apart')
    where
      at :
          (b : Bool) → eqb (fn v) f ≡ b → cond b true (occurs fn f h) ≡ true →
          ((g : ℕ) → Memᴰ g (cond b [] (fn v ∷ since fn f h)) → region g ≡ region f → ⊥) →
          (occurs fn f h ≡ true → ((g : ℕ) → Memᴰ g (since fn f h) → region g ≡ region f → ⊥) → is_held fn region (held fn region (region f) h) f ≡ true) →
          is_held fn region (held fn region (region f) (v ∷ h)) f ≡ true
      at true q o n ih = rw (eq-eqb (region (fn v)) (region f) (ap region (eqb-true (fn v) f q))) q
      at false q o n ih =
          rw (ne_eqb (region (fn v)) (region f) (n (fn v) (Memᴰ.head refl)))
          (ih o (λ g m. n g (Memᴰ.tail m)))

module _ (fn load : ℕ → ℕ) where
  -- What a run costs if a visit to v after h costs `toll v h` besides a load.
  unfoldable pub price : (ℕ → ℕ) → (ℕ → List ℕ → ℕ) → List ℕ → ℕ
  price region toll [] = 0
  price region toll (v ∷ h) = price region toll h + (toll v h + cond (hit fn region v h) 0 (load (fn v)))

  abbrev pub fee : (ℕ → ℕ) → (ℕ → Bool) → ℕ → ℕ
  fee own contested v = own v + cond (contested v) (load (fn v)) 0

-- What a function owes once: its load, if it is cold.
abbrev pub owed : (ℕ → ℕ) → (ℕ → Bool) → ℕ → ℕ
owed load cold f = cond (cold f) (load f) 0

-- Of what is owed, the part of the functions that a history has visited.
paid : (ℕ → ℕ) → (ℕ → ℕ) → List ℕ → ℕ → ℕ
paid fn due h f = cond (occurs fn f h) (due f) 0

-- A toll is at most the charge without a load, functions are in range, and the test passes for every contested vertex.
pub record Fair (fn own load region : ℕ → ℕ) (Edge : ℕ → ℕ → Type 0) (functions : ℕ) (toll : ℕ → List ℕ → ℕ) (contested : ℕ → Bool) : Type 0 where
  pub cheap : (v : ℕ) (h : List ℕ) → Walk Edge v h → toll v h ≤ own v
  pub function : (v : ℕ) (h : List ℕ) → Walk Edge v h → fn v < functions
  pub contested_all : (v : ℕ) → Contested fn Edge region v → contested v ≡ true

-- A vertex that passes no test of contested ones and finds its function not held is early, and the first of its function on the walk.
pub missed :
    {fn own load region : ℕ → ℕ} {Edge : ℕ → ℕ → Type 0} {functions : ℕ} {toll : ℕ → List ℕ → ℕ} {contested : ℕ → Bool} →
    Fair fn own load region Edge functions toll contested → (v : ℕ) (h : List ℕ) → Walk Edge v h → contested v ≡ false → hit fn region v h ≡ false →
    (occurs fn (fn v) h ≡ false) × Early fn Edge region v
missed {fn} {own} {load} {region} {Edge} {functions} {toll} {contested} fair v h t c q = at (occurs fn (fn v) h) refl
  where
    free : Contested fn Edge region v → ⊥
    free k = not_both c (fair.contested_all v k)

    at : (b : Bool) → occurs fn (fn v) h ≡ b → (occurs fn (fn v) h ≡ false) × Early fn Edge region v
    at true o = absurd (not_both q (kept fn region (fn v) h o (λ g m e. free (g, (since_ne fn (fn v) g h m, (h, t, m)), e))))
    at false o = (o, (free, (h, t, o)))

-- A term that is counted stays counted after one visit more, and no term is counted above its value.
stays : (b o : Bool) (x : ℕ) → cond o x 0 ≤ cond (cond b true o) x 0
stays true true x = omega arith
stays true false x = omega arith
stays false true x = omega arith
stays false false x = omega arith

at_most : (o : Bool) (x : ℕ) → cond o x 0 ≤ x
at_most true x = omega arith
at_most false x = omega arith

module _
    {fn own load region : ℕ → ℕ} {Edge : ℕ → ℕ → Type 0} {functions : ℕ} {toll : ℕ → List ℕ → ℕ} {contested cold : ℕ → Bool}
    (fair : Fair fn own load region Edge functions toll contested) (cold_all : (f : ℕ) → Cold fn Edge region f → cold f ≡ true) where
  -- What the functions visited so far owed.
  abbrev dues : List ℕ → ℕ → ℕ
  dues h = paid fn (owed load cold) h

  abbrev Settled : List ℕ → Type 0
  Settled h = price fn load region toll h ≤ charges (fee fn load own contested) h + total functions (dues h)

  visit : (v : ℕ) (h : List ℕ) → Walk Edge v h → Settled h → Settled (v ∷ h)
  unfolding price charges paid occurs
  visit v h t ih = at (hit fn region v h) refl (contested v) refl
    where
      grows : (f : ℕ) → dues h f ≤ dues (v ∷ h) f
      grows f = stays (eqb (fn v) f) (occurs fn f h) (owed load cold f)

      rises : total functions (dues h) ≤ total functions (dues (v ∷ h))
      rises = total_mono (dues h) (dues (v ∷ h)) grows functions

      gains : contested v ≡ false → hit fn region v h ≡ false → dues h (fn v) + load (fn v) ≤ dues (v ∷ h) (fn v)
      gains c q =
          let (first, early) = missed fair v h t c q in
          rw (first, eq-eqb (fn v) (fn v) refl, cold_all (fn v) (v, refl, early)) (omega arith)

      at :
          (a : Bool) → hit fn region v h ≡ a → (c : Bool) → contested v ≡ c →
          price fn load region toll h + (toll v h + cond a 0 (load (fn v)))
          ≤ charges (fee fn load own contested) h + (own v + cond c (load (fn v)) 0) + total functions (dues (v ∷ h))
      at true q c r = omega (arith, fair.cheap v h t, rises)
      at false q true r = omega (arith, fair.cheap v h t, rises)
      at false q false r =
          omega (
            arith,
            fair.cheap v h t,
            total_gain (dues h) (dues (v ∷ h)) grows (fn v) (load (fn v)) (gains r q) functions (fair.function v h t),
          )

  so_far : {v : ℕ} {h : List ℕ} → Walk Edge v h → Settled (v ∷ h)
  unfolding price
  so_far start = visit 0 [] start (omega arith)
  so_far (step {u} {v} {h} t d) = visit v (u ∷ h) (step t d) (so_far t)

  pub covered :
      {v : ℕ} {h : List ℕ} → Walk Edge v h →
      price fn load region toll (v ∷ h) ≤ charges (fee fn load own contested) (v ∷ h) + total functions (owed load cold)
  unfolding paid
  covered {v} {h} t =
      let most = total_mono (dues (v ∷ h)) (owed load cold) (λ f. at_most (occurs fn f (v ∷ h)) (owed load cold f)) functions in
      omega (arith, so_far t)

module _ (p : Problem) (layout : List ℕ) where
  pub cycles_price : (h : List ℕ) → cycles p layout h ≡ price (function_of p) (load_cost p) (region_of layout) (toll_of p) h
  unfolding cycles price
  cycles_price [] = refl
  cycles_price (v ∷ h) = rw (cycles_price h)

  pub fair_cycles :
      (contested early cold : ℕ → Bool) → Told p layout contested early cold →
      ((v : ℕ) (h : List ℕ) → Walk (EdgeOf p) v h → function_of p v < p.function_count) →
      Fair (function_of p) (fixed p) (load_cost p) (region_of layout) (EdgeOf p) p.function_count (toll_of p) contested
  fair_cycles contested early cold told function = record { cheap = cheap p; function = function; contested_all = told.contested_all }

  -- Demand 3, its first half.
  pub cycles_covered :
      (contested early cold : ℕ → Bool) → Told p layout contested early cold →
      ((v : ℕ) (h : List ℕ) → Walk (EdgeOf p) v h → function_of p v < p.function_count) →
      {v : ℕ} {h : List ℕ} → Walk (EdgeOf p) v h →
      cycles p layout (v ∷ h) ≤ charges (visit_charge p contested) (v ∷ h) + first_loads p cold
  unfolding visit_charge first_loads
  cycles_covered contested early cold told function {v} {h} t = rw (cycles_price (v ∷ h)) (covered (fair_cycles contested early cold told function) told.cold_all t)
