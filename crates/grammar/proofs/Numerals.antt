-- A number that is written is read back, and one that is read was written.
use Prim.Native.Nat.{ℕ, zero, suc, ◌+◌, ◌-◌, ◌*◌, ◌/◌, ◌%◌, ◌≤◌, ◌<◌}
use native.Mathlib.Omega.{arith}
use mathlib.Core.Path.{◌≡◌, refl, sym, ap, ap₂, ◌∙◌}
use mathlib.Core.Bool.{true, ◌&&◌}
use mathlib.Core.List.{List, [], ◌∷◌, ◌++◌, append_assoc}
use lib.Dec.{ltb, leb}
use borrow.Author.Tests.{ltb-true, leb-true, lt-ltb, le-leb}
use Rattle.model.specs.Decimals.{digits_of, decimal}
use Rattle.model.proofs.Cases.{by_less, and_left, and_right}
use Rattle.decimals.proofs.Digits.{short, long}
use Rattle.grammar.specs.Numerals.{digit, opens, fits, digits, numeral, ended}

module _ {R : Type 0} (least most : ℕ) (stop : ℕ → R) (go : ℕ → List ℕ → ℕ → R) where
  opens_is : (n : ℕ) → n < 10 → least ≤ n → n ≤ most → opens least most (48 + n) ≡ true
  unfolding opens
  opens_is n a b c =
      let e : 48 + n - 48 ≡ n = omega arith in
      rw (le-leb 48 (48 + n) (omega arith), lt-ltb (48 + n) 58 (omega arith), e, le-leb least n b, le-leb n most c)

  fits_is : (v d : ℕ) → 0 < v → d < 10 → v * 10 + d ≤ most → fits v most (48 + d) ≡ true
  unfolding fits
  fits_is v d a b c =
      let e : 48 + d - 48 ≡ d = omega arith in
      rw (le-leb 48 (48 + d) (omega arith), lt-ltb (48 + d) 58 (omega arith), e, lt-ltb 0 v a, le-leb (v * 10 + d) most c)

  first_digit : (n : ℕ) (s : List ℕ) (at : ℕ) → n < 10 → least ≤ n → n ≤ most → numeral least most ((48 + n) ∷ s) at stop go ≡ digits most n s (at + 1) go
  unfolding numeral
  first_digit n s at a b c = let e : 48 + n - 48 ≡ n = omega arith in rw (opens_is n a b c, e)

  next_digit : (v d : ℕ) (s : List ℕ) (at : ℕ) → 0 < v → d < 10 → v * 10 + d ≤ most → digits most v ((48 + d) ∷ s) at go ≡ digits most (v * 10 + d) s (at + 1) go
  unfolding digits
  next_digit v d s at a b c = let e : 48 + d - 48 ≡ d = omega arith in rw (fits_is v d a b c, e)

  pub reads_back : (k n : ℕ) (s : List ℕ) (at : ℕ) → n ≤ k → least ≤ 1 → least ≤ n → n ≤ most
      → (j : ℕ) × (numeral least most (digits_of k n s) at stop go ≡ digits most n s (at + j) go)
  unfolding digits_of
  reads_back zero n s at l a b c = (1, first_digit n s at (omega arith) b c)
  reads_back (suc k) n s at l a b c =
      by_less (λ x. (j : ℕ) × (numeral least most x at stop go ≡ digits most n s (at + j) go)) n 10
      (λ h. (1, first_digit n s at h b c))
      (λ h. further (reads_back k (n / 10) ((48 + n % 10) ∷ s) at (omega arith) a (omega arith) (omega arith)) h)
    where
      further : (j : ℕ) × (numeral least most (digits_of k (n / 10) ((48 + n % 10) ∷ s)) at stop go ≡ digits most (n / 10) ((48 + n % 10) ∷ s) (at + j) go)
          → 10 ≤ n → (j : ℕ) × (numeral least most (digits_of k (n / 10) ((48 + n % 10) ∷ s)) at stop go ≡ digits most n s (at + j) go)
      further (j, e) h =
          let p : n / 10 * 10 + n % 10 ≡ n = omega arith in
          let q : at + j + 1 ≡ at + (j + 1) = omega arith in
          let w : digits most (n / 10 * 10 + n % 10) s (at + j + 1) go ≡ digits most n s (at + (j + 1)) go = rw (p, q) in
          (j + 1, e ∙ next_digit (n / 10) (n % 10) s (at + j) (omega arith) (omega arith) (omega arith) ∙ w)

  pub no_more : (v : ℕ) (s : List ℕ) (at : ℕ) → ended s → digits most v s at go ≡ go v s at
  unfolding digits fits
  no_more v [] at e = refl
  no_more v (c ∷ s) at e = rw e

pub digit_range : (c : ℕ) → digit c ≡ true → (48 ≤ c) × (c < 58)
digit_range c e = (leb-true 48 c (and_left (leb 48 c) (ltb c 58) e), ltb-true c 58 (and_right (leb 48 c) (ltb c 58) e))

pub opens_gives : (l m c : ℕ) → opens l m c ≡ true → (48 ≤ c) × (c < 58) × (l ≤ c - 48) × (c - 48 ≤ m)
unfolding opens
opens_gives l m c e =
    let d = digit_range c (and_left (digit c) (leb l (c - 48) && leb (c - 48) m) e) in
    let f = and_right (digit c) (leb l (c - 48) && leb (c - 48) m) e in
    (d.0, d.1, leb-true l (c - 48) (and_left (leb l (c - 48)) (leb (c - 48) m) f), leb-true (c - 48) m (and_right (leb l (c - 48)) (leb (c - 48) m) f))

pub fits_gives : (v m c : ℕ) → fits v m c ≡ true → (48 ≤ c) × (c < 58) × (0 < v) × (v * 10 + (c - 48) ≤ m)
unfolding fits
fits_gives v m c e =
    let d = digit_range c (and_left (digit c) (ltb 0 v && leb (v * 10 + (c - 48)) m) e) in
    let f = and_right (digit c) (ltb 0 v && leb (v * 10 + (c - 48)) m) e in
    (d.0, d.1, ltb-true 0 v (and_left (ltb 0 v) (leb (v * 10 + (c - 48)) m) f), leb-true (v * 10 + (c - 48)) m (and_right (ltb 0 v) (leb (v * 10 + (c - 48)) m) f))

-- A number of one digit, and one with a digit more.
pub single : (c : ℕ) (s : List ℕ) → 48 ≤ c → c < 58 → c ∷ s ≡ decimal (c - 48) ++ s
single c s a b = let e : 48 + (c - 48) ≡ c = omega arith in sym (ap (λ (x : List ℕ). x ++ s) (short (c - 48) (omega arith)) ∙ ap (λ (x : ℕ). x ∷ s) e)

longer : (v d : ℕ) (t : List ℕ) → 0 < v → d < 10 → decimal v ++ ((48 + d) ∷ t) ≡ decimal (v * 10 + d) ++ t
longer v d t a b =
    let p : (v * 10 + d) / 10 ≡ v = omega arith in
    let q : (v * 10 + d) % 10 ≡ d = omega arith in
    let e = long (v * 10 + d) (omega arith) ∙ ap₂ (λ (x y : ℕ). decimal x ++ ((48 + y) ∷ [])) p q in
    sym (ap (λ (x : List ℕ). x ++ t) e ∙ append_assoc (decimal v) ((48 + d) ∷ []) t)

pub grows : (v m c : ℕ) (s : List ℕ) → fits v m c ≡ true → decimal v ++ (c ∷ s) ≡ decimal (v * 10 + (c - 48)) ++ s
grows v m c s e =
    let f = fits_gives v m c e in
    let q : 48 + (c - 48) ≡ c = omega (arith, f.0) in
    ap (λ (x : ℕ). decimal v ++ (x ∷ s)) (sym q) ∙ longer v (c - 48) s f.2 (omega (arith, f.1))
