-- Warshall's closure in place: while a function is let through, its own word stays as it is.
use Prim.Native.Nat.{ℕ, zero, suc, ◌+◌, ◌≤◌, ◌<◌}
use Rattle.std.specs.Prelude.{Err, Ok}
use Rattle.model.specs.Refusals.{Verdict}
use mathlib.Core.Path.{◌≡◌, refl, sym, ap, ◌∙◌}
use mathlib.Core.List.{List}
use mathlib.Core.Bool.{Bool, true, false, cond, ◌&&◌, ◌||◌, or-false}
use native.Mathlib.Omega.{arith}
use native.Mathlib.Numerals.{add-one}
use lib.ListN.{length, get_or, set, length-set}
use lib.Seq.{get_or-set_same, get_or-set_other}
use lib.Dec.{ltb}
use lib.Bits.{bit_or}
use borrow.Author.Count.{below_more}
use Rattle.model.specs.declared.Refusal.{Refusal}
use Rattle.model.specs.declared.Refusal.TheVariants.{Recursive}
use Rattle.model.specs.Places as places
use Rattle.model.specs.Graph.{broken}
use Rattle.model.specs.Drawings.{drawn_functions}
use Rattle.model.specs.Inlined.{via, calls, judge_calls}
use Rattle.model.proofs.Cases.{by_order}
use Rattle.model.proofs.Search.{lowest_alike}
use Rattle.bits.specs.Tests.{has}
use Rattle.bits.proofs.Tests.{has_or}
use Rattle.drawn_calls.specs.Words.{told, Tells, let_through}

-- A word, and by way of k another.
module _ (word k onward : ℕ) where
  pub goes_through : has word k ≡ true → (g : ℕ) → has (bit_or word onward) g ≡ (has word g || (has word k && has onward g))
  goes_through e g = has_or word onward g ∙ sym (ap (λ (b : Bool). has word g || (b && has onward g)) e)

  pub stays_out : has word k ≡ false → (g : ℕ) → has word g ≡ (has word g || (has word k && has onward g))
  stays_out e g = sym (ap (λ (b : Bool). has word g || (b && has onward g)) e ∙ or-false (has word g))

-- By way of k, k itself leads nowhere else.
through_itself : (a b : Bool) → (a || (b && a)) ≡ a
through_itself true b = refl
through_itself false true = refl
through_itself false false = refl

module _ (words₀ : List ℕ) (k : ℕ) where
  -- k is let through to the functions below f; the others' words are as they were.
  pub record LetTo (f : ℕ) (words : List ℕ) : Type 0 where
    pub long : length words ≡ places.most_functions
    pub done : (j g : ℕ) → j < f → told words j g ≡ let_through (told words₀) k j g
    pub rest : (j : ℕ) → f ≤ j → get_or words j 0 ≡ get_or words₀ j 0

  pub let_none : length words₀ ≡ places.most_functions → LetTo 0 words₀
  let_none long = record { long = long; done = λ j g h. let z : ⊥ = omega arith in elim z [ ]; rest = λ j h. refl }

  module _ (f : ℕ) (words : List ℕ) (so_far : LetTo f words) where
    own_word : (g : ℕ) → told words k g ≡ told words₀ k g
    own_word g =
        by_order k f
        (λ h. so_far.done k g h ∙ through_itself (told words₀ k g) (told words₀ k k))
        (λ h. ap (λ (w : ℕ). has w g) (so_far.rest k h))

    own_now : (g : ℕ) → told words f g ≡ told words₀ f g
    own_now g = ap (λ (w : ℕ). has w g) (so_far.rest f (omega arith))

    pub let_more : (word : ℕ) → f < places.most_functions → ((g : ℕ) → has word g ≡ (told words f g || (told words f k && told words k g))) → LetTo (f + 1) (set words f word)
    let_more word low is =
        record {
          long = length-set words f word ∙ so_far.long;
          done = λ i g h.
              below_more (λ (j : ℕ). told (set words f word) j g ≡ let_through (told words₀) k j g) f
              (λ j lt. ap (λ (w : ℕ). has w g) (get_or-set_other words f j word 0 (omega arith)) ∙ so_far.done j g lt)
              (ap (λ (w : ℕ). has w g) (get_or-set_same words f word 0 (omega (arith, so_far.long))) ∙ is g ∙ (λ d. own_now g d || (own_now k d && own_word g d)))
              i h;
          rest = λ j h. get_or-set_other words f j word 0 (omega arith) ∙ so_far.rest j (omega arith);
        }

    pub let_all : (n : ℕ) → n ≤ f → Tells (let_through (told words₀) k) n words
    let_all n h = record { long = so_far.long; bit = λ j g lt. so_far.done j g (omega arith) }

module _ (leads : ℕ → ℕ → Bool) (n : ℕ) where
  -- Before any function is let through, and one more.
  pub via_none : (words : List ℕ) → Tells leads n words → Tells (via leads 0) n words
  unfolding via
  via_none words tells = record { long = tells.long; bit = tells.bit }

  pub via_more : (k : ℕ) (words after : List ℕ) → k < n → Tells (via leads k) n words → Tells (let_through (told words) k) n after → Tells (via leads (k + 1)) n after
  unfolding via
  via_more k words after low tells more =
      record {
        long = more.long;
        bit = λ f g h.
            more.bit f g h
            ∙ (λ i. tells.bit f g h i || (tells.bit f k h i && tells.bit k g low i))
            ∙ sym (ap (λ (m : ℕ). via leads m f g) (add-one k));
      }

  pub via_all : (k : ℕ) (words : List ℕ) → k ≤ n → n ≤ k → Tells (via leads k) n words → Tells (via leads n) n words
  via_all k words low high tells =
      let all : k ≡ n = omega arith in
      record { long = tells.long; bit = λ f g h. tells.bit f g h ∙ ap (λ (m : ℕ). via leads m f g) all }

  -- Only what leads from the first n functions counts.
  pub via_alike : (other : ℕ → ℕ → Bool) → ((f g : ℕ) → f < n → leads f g ≡ other f g) → (k : ℕ) → k ≤ n → (f g : ℕ) → f < n → via leads k f g ≡ via other k f g
  unfolding via
  via_alike other same zero few f g h = same f g h
  via_alike other same (suc k) few f g h =
      let before = via_alike other same k (omega arith) in
      λ i. before f g h i || (before f k h i && before k g (omega arith) i)

-- Tests that say the same of the numbers below n break a rule at the same number.
pub broken_alike : (n : ℕ) (test other : ℕ → Bool) (refusal : ℕ → Refusal) → ((f : ℕ) → f < n → test f ≡ other f) → broken n test refusal ≡ broken n other refusal
broken_alike n test other refusal same =
    let lowest = lowest_alike n test other same in
    λ i. cond (ltb (lowest i) n) (Err (refusal (lowest i))) (Ok tt)

-- 18, on words that were closed.
pub calls_judged : (d : List ℕ) {count : ℕ} {words closed : List ℕ} {v : Verdict} → count ≡ drawn_functions d →
    Tells (calls d) (drawn_functions d) words → Tells (via (told words) count) count closed → v ≡ broken count (λ f. told closed f f) Recursive → v ≡ judge_calls d
unfolding judge_calls
calls_judged d {count} {words} {closed} counted called reached is =
    let same : (f g : ℕ) → f < count → told words f g ≡ calls d f g = λ f g h. called.bit f g (omega arith) in
    is
    ∙ broken_alike count (λ f. told closed f f) (λ f. via (calls d) count f f) Recursive
    (λ f h. reached.bit f f h ∙ via_alike (told words) count (calls d) same count (omega arith) f f h)
    ∙ ap (λ (n : ℕ). broken n (λ f. via (calls d) n f f) Recursive) counted
