-- Up to where reading stops, the text begins one that the grammar allows.
use Prim.Native.Nat.{ℕ, zero, suc, ◌+◌, ◌-◌, ◌*◌, ◌≤◌}
use native.Mathlib.Omega.{arith}
use mathlib.Core.Path.{◌≡◌, refl, sym, ap, ◌∙◌, subst}
use mathlib.Core.Bool.{Bool, true, false, cond}
use mathlib.Core.List.{List, [], ◌∷◌, ◌++◌}
use mathlib.Core.Logic.{◌⊎◌, inl, inr}
use lib.ListN.{take}
use lib.Seq.{take-nil}
use lib.Dec.{eqb}
use borrow.Author.Tests.{eqb-true, eqb-false}
use Rattle.model.specs.Decimals.{decimal}
use Rattle.grammar.specs.Numerals.{opens, fits, digits, numeral}
use Rattle.grammar.specs.Grammar.{Grammar, dead, done, branch, value, Stuck, read_by, Spells, Alive, Starts, Good}
use Rattle.grammar.proofs.Numerals.{opens_gives, fits_gives, single, grows}
use Rattle.grammar.proofs.Meaning.{apart, stuck_one}
use Rattle.grammar.proofs.Firm.{firm_digits, firm}

module _ {A : Type 0} where
  -- Up to where reading stops, the text begins a sentence.
  abbrev pub Begun : Grammar A → Type 0
  Begun g = (s : List ℕ) (at j : ℕ) → read_by g s at ≡ Stuck (at + j) → (j ≡ 0) ⊎ Starts g (take j s)

  digits_begun : (k : ℕ → Grammar A) → ((n : ℕ) → Begun (k n)) → ((n : ℕ) → Alive (k n)) → (l m v : ℕ) → l ≤ v → v ≤ m → (s : List ℕ) (at j : ℕ)
      → digits m v s at (λ n. read_by (k n)) ≡ Stuck (at + j) → (rest : List ℕ) × ((a : A) × Spells (value l m k) (decimal v ++ (take j s ++ rest)) a)
  unfolding digits Spells
  digits_begun k ih alive l m v lo hi [] at j e =
      let (t, (a, x)) = alive v in
      (t, (a, (v, lo, hi, (t, ap (λ (y : List ℕ). decimal v ++ (y ++ t)) (take-nil j), x))))
  digits_begun k ih alive l m v lo hi (c ∷ s) at j e =
      turn (fits v m c) refl e (λ w i up top y. digits_begun k ih alive l m w (omega arith) top s (at + 1) i y)
    where
      further : (i : ℕ) → at + j ≡ at + 1 + i → j ≡ suc i
      further i q = omega arith

      stop : (j ≡ 0) ⊎ Starts (k v) (take j (c ∷ s)) → (rest : List ℕ) × ((a : A) × Spells (value l m k) (decimal v ++ (take j (c ∷ s) ++ rest)) a)
      stop (inl z) = let (t, (a, x)) = alive v in (t, (a, (v, lo, hi, (t, ap (λ (y : ℕ). decimal v ++ (take y (c ∷ s) ++ t)) z, x))))
      stop (inr (t, (a, x))) = (t, (a, (v, lo, hi, (take j (c ∷ s) ++ t, refl, x))))

      turn : (b : Bool) → fits v m c ≡ b → cond b (digits m (v * 10 + (c - 48)) s (at + 1) (λ n. read_by (k n))) (read_by (k v) (c ∷ s) at) ≡ Stuck (at + j)
          → ((w i : ℕ) → v ≤ w → w ≤ m → digits m w s (at + 1) (λ n. read_by (k n)) ≡ Stuck (at + 1 + i)
          → (rest : List ℕ) × ((a : A) × Spells (value l m k) (decimal w ++ (take i s ++ rest)) a))
          → (rest : List ℕ) × ((a : A) × Spells (value l m k) (decimal v ++ (take j (c ∷ s) ++ rest)) a)
      turn false f e go = stop (ih v (c ∷ s) at j e)
      turn true f e go =
          let q = fits_gives v m c f in
          let (i, p, _, _) = firm_digits k (λ n. firm (k n)) m (v * 10 + (c - 48)) s (at + 1) (at + j) e in
          let (t, (a, x)) = go (v * 10 + (c - 48)) i (omega arith) q.3 (e ∙ ap Stuck p) in (
            t,
            (
              a,
              subst (λ (y : ℕ). Spells (value l m k) (decimal v ++ (take y (c ∷ s) ++ t)) a) (sym (further i p))
                  (subst (λ (y : List ℕ). Spells (value l m k) y a) (sym (grows v m c (take i s ++ t) f)) x),
            ),
          )

  pub begun : (g : Grammar A) → Good g → Begun g
  unfolding read_by Spells Good numeral
  begun dead ok s at j e = inl (let q = stuck_one e in omega arith)
  begun (done b) ok [] at j e = absurd (apart e)
  begun (done b) ok (c ∷ s) at j e = inl (let q = stuck_one e in omega arith)
  begun (branch b g h) ok [] at j e = inl (let q = stuck_one e in omega arith)
  begun (branch b g h) ok (c ∷ s) at j e = turn (eqb c b) refl e (λ i y. begun g ok.0 s (at + 1) i y) (λ y. begun h ok.1 (c ∷ s) at j y)
    where
      on : (i : ℕ) → c ≡ b → j ≡ suc i → (i ≡ 0) ⊎ Starts g (take i s) → Starts (branch b g h) (take j (c ∷ s))
      on i f p (inl z) = let (t, (a, x)) = ok.2 in (t, (a, subst (λ (y : ℕ). Spells (branch b g h) (take y (c ∷ s) ++ t) a) (sym (p ∙ ap suc z)) (inl (f, x))))
      on i f p (inr (t, (a, x))) = (t, (a, subst (λ (y : ℕ). Spells (branch b g h) (take y (c ∷ s) ++ t) a) (sym p) (inl (f, x))))

      over : (i : ℕ) → j ≡ i → (c ≡ b → ⊥) → (j ≡ 0) ⊎ Starts h (take j (c ∷ s)) → (j ≡ 0) ⊎ Starts (branch b g h) (take j (c ∷ s))
      over i p f (inl z) = inl z
      over zero p f (inr x) = inl p
      over (suc i) p f (inr (t, (a, x))) =
          inr (t, (a, subst (λ (y : ℕ). Spells (branch b g h) (take y (c ∷ s) ++ t) a) (sym p) (inr (f, subst (λ (y : ℕ). Spells h (take y (c ∷ s) ++ t) a) p x))))

      turn : (t : Bool) → eqb c b ≡ t → cond t (read_by g s (at + 1)) (read_by h (c ∷ s) at) ≡ Stuck (at + j)
          → ((i : ℕ) → read_by g s (at + 1) ≡ Stuck (at + 1 + i) → (i ≡ 0) ⊎ Starts g (take i s))
          → (read_by h (c ∷ s) at ≡ Stuck (at + j) → (j ≡ 0) ⊎ Starts h (take j (c ∷ s)))
          → (j ≡ 0) ⊎ Starts (branch b g h) (take j (c ∷ s))
      turn true f e y z = let (i, p, _, _) = firm g s (at + 1) (at + j) e in inr (on i (eqb-true c b f) (omega arith) (y i (e ∙ ap Stuck p)))
      turn false f e y z = over j refl (eqb-false c b f) (z e)
  begun (value l m k) ok [] at j e = inl (let q = stuck_one e in omega arith)
  begun (value l m k) ok (c ∷ s) at j e =
      turn (opens l m c) refl e
      (λ i lo hi y. digits_begun k (λ n. begun (k n) (ok.1 n).0) (λ n. (ok.1 n).2) l m (c - 48) lo hi s (at + 1) i y)
    where
      turn : (b : Bool) → opens l m c ≡ b → cond b (digits m (c - 48) s (at + 1) (λ n. read_by (k n))) (Stuck at) ≡ Stuck (at + j)
          → ((i : ℕ) → l ≤ c - 48 → c - 48 ≤ m → digits m (c - 48) s (at + 1) (λ n. read_by (k n)) ≡ Stuck (at + 1 + i)
          → (rest : List ℕ) × ((a : A) × Spells (value l m k) (decimal (c - 48) ++ (take i s ++ rest)) a))
          → (j ≡ 0) ⊎ Starts (value l m k) (take j (c ∷ s))
      turn false f e go = inl (let q = stuck_one e in omega arith)
      turn true f e go =
          let q = opens_gives l m c f in
          let (i, p, _, _) = firm_digits k (λ n. firm (k n)) m (c - 48) s (at + 1) (at + j) e in
          let (t, (a, x)) = go i q.2 q.3 (e ∙ ap Stuck p) in
          let w : j ≡ suc i = omega arith in
          inr (
            t,
            (
              a,
              subst (λ (y : ℕ). Spells (value l m k) (take y (c ∷ s) ++ t) a) (sym w)
                  (subst (λ (y : List ℕ). Spells (value l m k) y a) (sym (single c (take i s ++ t) q.0 q.1)) x),
            ),
          )
