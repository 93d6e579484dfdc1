-- A text that the grammar allows reads as what it means, and what is read was allowed.
use Prim.Native.Nat.{ℕ, ◌+◌, ◌-◌, ◌*◌, ◌≤◌}
use native.Mathlib.Omega.{arith}
use mathlib.Core.Path.{◌≡◌, refl, sym, ap, ◌∙◌, subst}
use mathlib.Core.Bool.{Bool, true, false, cond}
use mathlib.Core.List.{List, [], ◌∷◌, ◌++◌}
use mathlib.Core.Logic.{◌⊎◌, inl, inr}
use lib.Dec.{eqb}
use borrow.Author.Tests.{eqb-true, eqb-false, eq-eqb, ne_eqb}
use Rattle.model.specs.Decimals.{decimal}
use Rattle.decimals.proofs.Digits.{front}
use Rattle.grammar.specs.Numerals.{opens, fits, digits, numeral}
use Rattle.grammar.specs.Grammar.{Grammar, dead, done, branch, value, Out, Meant, Stuck, read_by, Spells, Good}
use Rattle.grammar.proofs.Numerals.{reads_back, no_more, opens_gives, fits_gives, single, grows}

module _ {A : Type 0} where
  pub apart : {a : A} {k : ℕ} → Meant a ≡ Stuck k → ⊥
  apart e = let z : ◌≡◌ {A = ℕ} 0 1 = cc in omega arith

  pub stuck_one : {j k : ℕ} → ◌≡◌ {A = Out A} (Stuck j) (Stuck k) → j ≡ k
  stuck_one e = cc

  pub meant_one : {a b : A} → Meant a ≡ Meant b → a ≡ b
  meant_one e = cc

  -- A sentence reads as what it came from.
  pub gives_back : (g : Grammar A) → Good g → (s : List ℕ) (a : A) → Spells g s a → (at : ℕ) → read_by g s at ≡ Meant a
  unfolding read_by Spells Good
  gives_back dead ok s a x at = absurd x
  gives_back (done b) ok [] a x at = ap Meant x
  gives_back (done b) ok (c ∷ s) a x at = absurd x
  gives_back (branch b g h) ok [] a x at = absurd x
  gives_back (branch b g h) ok (c ∷ s) a (inl (e, x)) at = rw (eq-eqb c b e) (gives_back g ok.0 s a x (at + 1))
  gives_back (branch b g h) ok (c ∷ s) a (inr (e, x)) at = rw (ne_eqb c b e) (gives_back h ok.1 (c ∷ s) a x at)
  gives_back (value l m k) ok s a (n, b, c, (t, e, x)) at =
      let (j, q) = reads_back l m Stuck (λ n. read_by (k n)) n n t at (omega arith) ok.0 b c in
      ap (λ (y : List ℕ). numeral l m y at Stuck (λ n. read_by (k n))) (e ∙ front n t)
      ∙ q
      ∙ no_more l m Stuck (λ n. read_by (k n)) n t (at + j) ((ok.1 n).1 t a x)
      ∙ gives_back (k n) (ok.1 n).0 t a x (at + j)

  -- What is read was a sentence.
  abbrev Means : Grammar A → Type 0
  Means g = (s : List ℕ) (at : ℕ) (a : A) → read_by g s at ≡ Meant a → Spells g s a

  digits_mean : (k : ℕ → Grammar A) → ((n : ℕ) → Means (k n)) → (l m v : ℕ) → l ≤ v → v ≤ m → (s : List ℕ) (at : ℕ) (a : A)
      → digits m v s at (λ n. read_by (k n)) ≡ Meant a → Spells (value l m k) (decimal v ++ s) a
  unfolding digits Spells
  digits_mean k ih l m v lo hi [] at a e = (v, lo, hi, ([], refl, ih v [] at a e))
  digits_mean k ih l m v lo hi (c ∷ s) at a e =
      turn (fits v m c) refl e (λ w up x top. digits_mean k ih l m w (omega arith) top s (at + 1) a x)
    where
      turn : (b : Bool) → fits v m c ≡ b → cond b (digits m (v * 10 + (c - 48)) s (at + 1) (λ n. read_by (k n))) (read_by (k v) (c ∷ s) at) ≡ Meant a
          → ((w : ℕ) → v ≤ w → digits m w s (at + 1) (λ n. read_by (k n)) ≡ Meant a → w ≤ m → Spells (value l m k) (decimal w ++ s) a)
          → Spells (value l m k) (decimal v ++ (c ∷ s)) a
      turn true f e go =
          let q = fits_gives v m c f in
          subst (λ (y : List ℕ). Spells (value l m k) y a) (sym (grows v m c s f)) (go (v * 10 + (c - 48)) (omega arith) e q.3)
      turn false f e go = (v, lo, hi, ((c ∷ s), refl, ih v (c ∷ s) at a e))

  number_means : (k : ℕ → Grammar A) → ((n : ℕ) → Means (k n)) → (l m : ℕ) → Means (value l m k)
  unfolding numeral read_by
  number_means k ih l m [] at a e = absurd (apart (sym e))
  number_means k ih l m (c ∷ s) at a e = turn (opens l m c) refl e
    where
      turn : (b : Bool) → opens l m c ≡ b → cond b (digits m (c - 48) s (at + 1) (λ n. read_by (k n))) (Stuck at) ≡ Meant a
          → Spells (value l m k) (c ∷ s) a
      turn true f e =
          let q = opens_gives l m c f in
          subst (λ (y : List ℕ). Spells (value l m k) y a) (sym (single c s q.0 q.1)) (digits_mean k ih l m (c - 48) q.2 q.3 s (at + 1) a e)
      turn false f e = absurd (apart (sym e))

  pub means : (g : Grammar A) → Means g
  unfolding read_by Spells
  means dead s at a e = absurd (apart (sym e))
  means (done b) [] at a e = meant_one e
  means (done b) (c ∷ s) at a e = absurd (apart (sym e))
  means (branch b g h) [] at a e = absurd (apart (sym e))
  means (branch b g h) (c ∷ s) at a e = turn (eqb c b) refl e (λ x. means g s (at + 1) a x) (λ x. means h (c ∷ s) at a x)
    where
      turn : (t : Bool) → eqb c b ≡ t → cond t (read_by g s (at + 1)) (read_by h (c ∷ s) at) ≡ Meant a
          → (read_by g s (at + 1) ≡ Meant a → Spells g s a) → (read_by h (c ∷ s) at ≡ Meant a → Spells h (c ∷ s) a)
          → ((c ≡ b) × Spells g s a) ⊎ ((c ≡ b → ⊥) × Spells h (c ∷ s) a)
      turn true f e x y = inl (eqb-true c b f, x e)
      turn false f e x y = inr (eqb-false c b f, y e)
  means (value l m k) s at a e = number_means k (λ n. means (k n)) l m s at a e
