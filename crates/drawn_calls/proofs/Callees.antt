-- A callee's bit in a word.
use Prim.Native.Nat.{ℕ, ◌*◌, ◌%◌, ◌^◌, ◌<◌}
use mathlib.Core.Path.{◌≡◌, sym, ap, ◌∙◌}
use mathlib.Core.Bool.{Bool, true, false, ◌||◌, or-false}
use Rattle.std.specs.Prelude.{Option}
use lib.Dec.{eqb}
use lib.Bits.{bit_or}
use borrow.Author.Tests.{eqb-true, eqb-false, eq-eqb, ne_eqb}
use Rattle.model.specs.Places as places
use Rattle.model.specs.Drawings.{callee_of}
use Rattle.model.specs.Inlined.{calls_some, calls_the}
use Rattle.model.proofs.Cases.{by_bool}
use Rattle.bits.specs.Tests.{has}
use Rattle.bits.proofs.Bits.{one_shl}
use Rattle.bits.proofs.Tests.{has_or, has_pow}
use Rattle.drawings.proofs.Callees.{some_callee, no_callee_lem}

eqb_turned : (a b : ℕ) → eqb a b ≡ eqb b a
eqb_turned a b =
    by_bool (eqb b a)
    (λ e. rw e (eq-eqb a b (sym (eqb-true b a e))))
    (λ e. rw e (ne_eqb a b (λ q. eqb-false b a e (sym q))))

module _ (n word : ℕ) where
  pub callee_set : calls_some (callee_of n) ≡ true → n < places.most_functions → (g : ℕ) → has (bit_or word ((1 * 2 ^ n) % 2 ^ 32)) g ≡ (has word g || calls_the (callee_of n) g)
  callee_set calls low g =
      ap (λ (w : ℕ). has (bit_or word w) g) (one_shl n low)
      ∙ has_or word (2 ^ n) g
      ∙ ap (λ (b : Bool). has word g || b) (has_pow n g ∙ eqb_turned g n ∙ sym (ap (λ (o : Option ℕ). calls_the o g) (some_callee n calls)))

  pub callee_unset : calls_some (callee_of n) ≡ false → (g : ℕ) → has word g ≡ (has word g || calls_the (callee_of n) g)
  callee_unset calls g = sym (ap (λ (o : Option ℕ). has word g || calls_the o g) (no_callee_lem n calls) ∙ or-false (has word g))
