-- Where no function can reach itself by calls, every copy has a size: its function's vertices and the copies that they call.
use Prim.Native.Nat.{ℕ, zero, suc, ◌+◌, ◌≤◌, ◌<◌}
use Rattle.std.specs.Prelude.{Ok, Option, Some, None}
use mathlib.Core.Path.{◌≡◌, refl, ap₂}
use mathlib.Core.List.{List}
use mathlib.Core.Bool.{Bool, true, false}
use native.Mathlib.Omega.{arith}
use Rattle.model.specs.declared.Refusal.TheVariants.{Recursive}
use Rattle.model.specs.Costs.{total, how_many}
use Rattle.model.specs.Drawings.{drawn_functions, drawn_count, called_by}
use Rattle.model.specs.Inlined.{via, calls, reaches_itself, judge_calls}
use Rattle.model.proofs.Cases.{by_bool, by_order}
use Rattle.graph.proofs.Facts.{kept}
use Rattle.drawings.specs.Facts.{DrawingFacts}
use Rattle.calls.proofs.States.{copied, pos}
use Rattle.calls.proofs.Closure.{once, more, via_reaches, call_found, reached}

-- How many numbers below n pass a test, and where a test is narrower.
some_of : (n : ℕ) (test : ℕ → Bool) → how_many n test ≤ n
unfolding total
some_of zero test = omega arith
some_of (suc n) test = by_bool (test n) (λ e. rw e (omega (arith, some_of n test))) (λ e. rw e (omega (arith, some_of n test)))

module _ (narrow wide : ℕ → Bool) (holds : (k : ℕ) → narrow k ≡ true → wide k ≡ true) where
  no_more : (n : ℕ) → how_many n narrow ≤ how_many n wide
  unfolding total
  no_more zero = omega arith
  no_more (suc n) =
      by_bool (narrow n)
      (λ e. rw (e, holds n e) (omega (arith, no_more n)))
      (λ e. rw e (omega (arith, no_more n)))

  fewer : (n k : ℕ) → k < n → narrow k ≡ false → wide k ≡ true → how_many n narrow < how_many n wide
  unfolding total
  fewer zero k h out in_wide = let z : ⊥ = omega arith in elim z [ ]
  fewer (suc n) k h out in_wide =
      by_order k n
      (λ low.
      by_bool (narrow n)
      (λ e. rw (e, holds n e) (omega (arith, fewer n k low out in_wide)))
      (λ e. rw e (omega (arith, fewer n k low out in_wide))))
      (λ high. let e : k ≡ n = omega arith in rw (rw e at out, rw e at in_wide) (omega (arith, no_more n)))

module _ (d : List ℕ) where
  -- The vertices of a copy of f, where calls are followed k functions deep.
  unfoldable pub sizes : ℕ → ℕ → ℕ
  sizes zero f = 0
  sizes (suc k) f = pos d (sizes k) f (drawn_count d f)

  -- The size of a copy of f: no call goes deeper than there are functions.
  unfoldable pub size : ℕ → ℕ
  size f = sizes (suc (drawn_functions d)) f

  pos_same : (s t : ℕ → ℕ) (f n : ℕ) → ((v g : ℕ) → v < n → called_by d f v ≡ Some g → s g ≡ t g) → pos d s f n ≡ pos d t f n
  unfolding pos
  pos_same s t f zero same = refl
  pos_same s t f (suc n) same =
      ap₂ (λ (a b : ℕ). a + 1 + b) (pos_same s t f n (λ v g h. same v g (omega arith))) (at_call (called_by d f n) (λ g. same n g (omega arith)))
    where
      at_call : (o : Option ℕ) → ((g : ℕ) → o ≡ Some g → s g ≡ t g) → copied d s o ≡ copied d t o
      at_call None p = refl
      at_call (Some g) p = p g refl

  module _ (facts : DrawingFacts d) (accepted : judge_calls d ≡ Ok tt) where
    -- How many functions f can reach: a callee can reach fewer.
    abbrev reach : ℕ → ℕ → Bool
    reach = via (calls d) (drawn_functions d)

    abbrev rank : ℕ → ℕ
    rank f = how_many (drawn_functions d) (reach f)

    never : (f : ℕ) → f < drawn_functions d → reach f f ≡ false
    unfolding judge_calls
    never = kept (drawn_functions d) (reaches_itself d) Recursive accepted

    module _ (f v g : ℕ) (h : f < drawn_functions d) (low : v < drawn_count d f) (called : called_by d f v ≡ Some g) where
      known : g < drawn_functions d
      known = (facts.drawn f h).known v g low called

      rank_falls : rank g < rank f
      rank_falls =
          let call = call_found d f v g low called in
          fewer (reach g) (reach f) (λ k e. reached d facts f k h (more call (via_reaches (calls d) (drawn_functions d) g k e))) (drawn_functions d) g known (never g known)
          (reached d facts f g h (once call))

    stable : (j k f : ℕ) → f < drawn_functions d → rank f < j → rank f < k → sizes j f ≡ sizes k f
    unfolding sizes
    stable zero k f h p q = let z : ⊥ = omega arith in elim z [ ]
    stable (suc j) zero f h p q = let z : ⊥ = omega arith in elim z [ ]
    stable (suc j) (suc k) f h p q =
        pos_same (sizes j) (sizes k) f (drawn_count d f)
        (λ v g low e.
        let falls = rank_falls f v g h low e in
        stable j k g (known f v g h low e) (omega arith) (omega arith))

    -- A copy of f holds f's vertices and the copies that they call.
    pub sized : (f : ℕ) → f < drawn_functions d → size f ≡ pos d size f (drawn_count d f)
    unfolding size sizes
    sized f h =
        pos_same (sizes (drawn_functions d)) (sizes (suc (drawn_functions d))) f (drawn_count d f)
        (λ v g low e.
        let falls = rank_falls f v g h low e in
        let most = some_of (drawn_functions d) (reach f) in
        stable (drawn_functions d) (suc (drawn_functions d)) g (known f v g h low e) (omega arith) (omega arith))
