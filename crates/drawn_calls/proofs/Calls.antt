-- The functions that a function calls, as the bits of its word: vertex by vertex, and function by function.
use Prim.Native.Nat.{ℕ, ◌+◌, ◌≤◌, ◌<◌}
use mathlib.Core.Path.{◌≡◌, sym, ap, ◌∙◌}
use mathlib.Core.List.{List}
use mathlib.Core.Bool.{Bool, ◌||◌}
use native.Mathlib.Omega.{arith}
use native.Mathlib.Numerals.{add-one}
use lib.ListN.{length, set, length-set}
use lib.Seq.{get_or-set_same, get_or-set_other}
use borrow.Author.Count.{below_more}
use Rattle.model.specs.Places as places
use Rattle.model.specs.Search.{exists_below}
use Rattle.model.specs.Drawings.{drawn_count, called_by}
use Rattle.model.specs.Inlined.{calls_the, calls}
use Rattle.model.proofs.Search.{exists_first, exists_more}
use Rattle.bits.specs.Tests.{has}
use Rattle.bits.proofs.Tests.{has_zero}
use Rattle.drawn_calls.specs.Words.{told, Tells}

module _ (d : List ℕ) (f : ℕ) where
  -- The word has what the first v vertices call.
  pub record CalledTo (v word : ℕ) : Type 0 where
    pub within : v ≤ drawn_count d f
    pub bit : (g : ℕ) → has word g ≡ exists_below v (λ w. calls_the (called_by d f w) g)

  pub called_none : CalledTo 0 0
  called_none = record { within = omega arith; bit = λ g. has_zero g ∙ sym (exists_first (λ w. calls_the (called_by d f w) g)) }

  pub called_more : (v word after : ℕ) → v < drawn_count d f → CalledTo v word → ((g : ℕ) → has after g ≡ (has word g || calls_the (called_by d f v) g)) →
      CalledTo (v + 1) after
  called_more v word after h so_far more =
      record {
        within = omega arith;
        bit = λ g.
            more g
            ∙ ap (λ (b : Bool). b || calls_the (called_by d f v) g) (so_far.bit g)
            ∙ sym (exists_more v (λ w. calls_the (called_by d f w) g))
            ∙ sym (ap (λ (n : ℕ). exists_below n (λ w. calls_the (called_by d f w) g)) (add-one v));
      }

  pub called_all : (v word : ℕ) → drawn_count d f ≤ v → CalledTo v word → (g : ℕ) → has word g ≡ calls d f g
  unfolding calls
  called_all v word h so_far g =
      let all : v ≡ drawn_count d f = omega (arith, so_far.within) in
      so_far.bit g ∙ ap (λ (n : ℕ). exists_below n (λ w. calls_the (called_by d f w) g)) all

-- One word more.
module _ (leads : ℕ → ℕ → Bool) where
  pub tells_none : (words : List ℕ) → length words ≡ places.most_functions → Tells leads 0 words
  tells_none words long = record { long = long; bit = λ f g h. let z : ⊥ = omega arith in elim z [ ] }

  pub tells_more : (f : ℕ) (words : List ℕ) (word : ℕ) → f < places.most_functions → Tells leads f words → ((g : ℕ) → has word g ≡ leads f g) →
      Tells leads (f + 1) (set words f word)
  tells_more f words word low so_far is =
      record {
        long = length-set words f word ∙ so_far.long;
        bit = λ k g h.
            below_more (λ (j : ℕ). told (set words f word) j g ≡ leads j g) f
            (λ j lt. ap (λ (w : ℕ). has w g) (get_or-set_other words f j word 0 (omega arith)) ∙ so_far.bit j g lt)
            (ap (λ (w : ℕ). has w g) (get_or-set_same words f word 0 (omega (arith, so_far.long))) ∙ is g)
            k h;
      }

  pub tells_all : (f n : ℕ) (words : List ℕ) → n ≤ f → Tells leads f words → Tells leads n words
  tells_all f n words h so_far = record { long = so_far.long; bit = λ k g lt. so_far.bit k g (omega arith) }
