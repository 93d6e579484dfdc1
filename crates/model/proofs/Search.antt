-- Laws of the search for the lowest number that passes a test: what a loop `while i < n` that stops at the first hit knows at each point, and what
-- its answer says of the numbers below n.
use Prim.Native.Nat.{ℕ, zero, suc, ◌+◌, ◌-◌, ◌≤◌, ◌<◌}
use Rattle.std.specs.Prelude.{Err, Ok}
use mathlib.Core.Path.{◌≡◌, refl, sym, ap, ◌∙◌}
use mathlib.Core.Bool.{Bool, true, false, cond, ◌||◌}
use native.Mathlib.Omega.{arith}
use native.Mathlib.Nat.{sub-zero}
use lib.Dec.{eqb}
use borrow.Author.Tests.{lt-ltb, le-ltb, ltb-true, ltb-false, eqb-true, eqb-false}
use Rattle.model.specs.declared.Refusal.{Refusal}
use Rattle.model.specs.Search.{lowest_from, lowest_below, exists_below}
use Rattle.model.specs.Graph.{broken}
use Rattle.model.proofs.Cases.{by_bool, true_not_false}

-- The numbers below i have been passed over: the search goes on as one from i on.
pub record Searched (n : ℕ) (test : ℕ → Bool) (i : ℕ) : Type 0 where
  pub within : i ≤ n
  pub rest : lowest_from (n - i) i test ≡ lowest_from n 0 test

module _ (n : ℕ) (test : ℕ → Bool) where
  pub start : Searched n test 0
  start = record { within = omega arith; rest = rw sub-zero }

module _ {n : ℕ} {test : ℕ → Bool} {i : ℕ} (searched : Searched n test i) where
  module _ (below : i < n) where
    turn : cond (test i) i (lowest_from (n - (i + 1)) (i + 1) test) ≡ lowest_below n test
    unfolding lowest_from
    turn = let left : n - i ≡ suc (n - (i + 1)) = omega arith in rw left at searched.rest

    pub miss : test i ≡ false → Searched n test (i + 1)
    miss e = record { within = omega arith; rest = rw e at turn }

    pub hit : test i ≡ true → i ≡ lowest_below n test
    hit e = rw e at turn

    pub exists_hit : test i ≡ true → true ≡ exists_below n test
    exists_hit e = sym (lt-ltb (lowest_below n test) n (omega (arith, hit e)))

    pub broken_hit : (refusal : ℕ → Refusal) → test i ≡ true → Err (refusal i) ≡ broken n test refusal
    broken_hit refusal e = rw (← exists_hit e, ← hit e)

  module _ (over : n ≤ i) where
    pub none : n ≡ lowest_below n test
    unfolding lowest_from
    none =
        let left : n - i ≡ 0 = omega arith in
        let end : i ≡ lowest_below n test = rw left at searched.rest in
        omega arith

    pub exists_none : false ≡ exists_below n test
    exists_none = sym (le-ltb (lowest_below n test) n (omega (arith, none)))

    pub broken_none : (refusal : ℕ → Refusal) → Ok tt ≡ broken n test refusal
    broken_none refusal = rw (← exists_none)

found_from : (left i : ℕ) (test : ℕ → Bool) → lowest_from left i test < i + left → test (lowest_from left i test) ≡ true
unfolding lowest_from
found_from zero i test h = let z : ⊥ = omega arith in elim z [ ]
found_from (suc left) i test h =
    by_bool (test i)
    (λ e. rw (e, e))
    (λ e. rw e (found_from left (i + 1) test (let k : lowest_from left (i + 1) test < i + suc left = rw e at h in omega arith)))

missed_from : (left i : ℕ) (test : ℕ → Bool) (j : ℕ) → i ≤ j → j < i + left → j < lowest_from left i test → test j ≡ false
unfolding lowest_from
missed_from zero i test j low high below = let z : ⊥ = omega arith in elim z [ ]
missed_from (suc left) i test j low high below =
    by_bool (test i)
    (λ e. let k : j < i = rw e at below in let z : ⊥ = omega arith in elim z [ ])
    (λ e.
    let k : j < lowest_from left (i + 1) test = rw e at below in
    by_bool (eqb i j)
    (λ q. ap test (sym (eqb-true i j q)) ∙ e)
    (λ q. missed_from left (i + 1) test j (omega (arith, eqb-false i j q)) (omega arith) k))

alike_from : (left i : ℕ) (test other : ℕ → Bool) → ((j : ℕ) → j < i + left → test j ≡ other j) → lowest_from left i test ≡ lowest_from left i other
unfolding lowest_from
alike_from zero i test other same = refl
alike_from (suc left) i test other same = rw (same i (omega arith), alike_from left (i + 1) test other (λ j h. same j (omega arith)))

-- Tests that say the same of the numbers below n have the same lowest.
pub lowest_alike : (n : ℕ) (test other : ℕ → Bool) → ((i : ℕ) → i < n → test i ≡ other i) → lowest_below n test ≡ lowest_below n other
lowest_alike n test other same = alike_from n 0 test other (λ j h. same j (omega arith))

within_from : (left i : ℕ) (test : ℕ → Bool) → lowest_from left i test ≤ i + left
unfolding lowest_from
within_from zero i test = omega arith
within_from (suc left) i test =
    by_bool (test i) (λ e. rw e (omega arith)) (λ e. rw e (omega (arith, within_from left (i + 1) test)))

-- What the search's answer says.
module _ (n : ℕ) (test : ℕ → Bool) where
  pub lowest_within : lowest_below n test ≤ n
  lowest_within = omega (arith, within_from n 0 test)

  -- The lowest number that passes, passes.
  pub lowest_passes : exists_below n test ≡ true → test (lowest_below n test) ≡ true
  lowest_passes e = found_from n 0 test (omega (arith, ltb-true (lowest_below n test) n e))

  pub some_below : exists_below n test ≡ true → (i : ℕ) × (i < n) × (test i ≡ true)
  some_below e = (lowest_below n test, ltb-true (lowest_below n test) n e, lowest_passes e)

  pub none_below : exists_below n test ≡ false → (i : ℕ) → i < n → test i ≡ false
  none_below e i h = missed_from n 0 test i (omega arith) (omega arith) (omega (arith, ltb-false (lowest_below n test) n e))

  -- The numbers below the lowest that passes do not.
  pub below_lowest : (i : ℕ) → i < n → i < lowest_below n test → test i ≡ false
  below_lowest i h below = missed_from n 0 test i (omega arith) (omega arith) below

  pub exists_at : (i : ℕ) → i < n → test i ≡ true → exists_below n test ≡ true
  exists_at i h e = by_bool (exists_below n test) (λ q. q) (λ q. true_not_false (sym e ∙ none_below q i h))

-- Whether some number passes, as the numbers grow.
pub exists_first : (test : ℕ → Bool) → exists_below 0 test ≡ false
exists_first test = le-ltb (lowest_below 0 test) 0 (omega arith)

pub exists_nowhere : (n : ℕ) (test : ℕ → Bool) → ((i : ℕ) → i < n → test i ≡ false) → exists_below n test ≡ false
exists_nowhere n test all =
    by_bool (exists_below n test) (λ q. let r = some_below n test q in true_not_false (sym r.2 ∙ all r.0 r.1)) (λ q. q)

pub exists_more : (n : ℕ) (test : ℕ → Bool) → exists_below (suc n) test ≡ (exists_below n test || test n)
exists_more n test =
    by_bool (exists_below n test)
    (λ e. let r = some_below n test e in rw e (exists_at (suc n) test r.0 (omega (arith, r.1)) r.2))
    (λ e.
    by_bool (test n)
    (λ t. rw (e, t) (exists_at (suc n) test n (omega arith) t))
    (λ t. rw (e, t) (exists_nowhere (suc n) test (missed e t))))
  where
    missed : exists_below n test ≡ false → test n ≡ false → (i : ℕ) → i < suc n → test i ≡ false
    missed e t i h = by_bool (eqb i n) (λ q. rw (eqb-true i n q) t) (λ q. none_below n test e i (omega (arith, eqb-false i n q)))
