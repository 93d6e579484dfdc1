-- Where reading stops, it stops on every text that agrees so far.
use Prim.Native.Nat.{ℕ, suc, ◌+◌, ◌-◌, ◌*◌, ◌≤◌, ◌<◌}
use native.Mathlib.Omega.{arith}
use mathlib.Core.Path.{◌≡◌, refl, sym, ap, ◌∙◌, subst}
use mathlib.Core.Bool.{Bool, true, false, cond}
use mathlib.Core.List.{List, [], ◌∷◌}
use lib.ListN.{length, take}
use lib.Dec.{eqb}
use Rattle.grammar.specs.Numerals.{opens, fits, digits, numeral}
use Rattle.grammar.specs.Grammar.{Grammar, dead, done, branch, value, Out, Stuck, read_by}
use Rattle.grammar.proofs.Meaning.{apart, stuck_one}

module _ {A : Type 0} where
  -- Where reading stops, it stops on every text that agrees so far and at the byte where it stops.
  abbrev pub FirmAt : (List ℕ → ℕ → Out A) → List ℕ → ℕ → ℕ → Type 0
  FirmAt W s at k = (j : ℕ) × (k ≡ at + j) × (j ≤ length s) × (j < length s → (s' : List ℕ) → take (suc j) s' ≡ take (suc j) s → W s' at ≡ Stuck k)

  abbrev pub Firm : (List ℕ → ℕ → Out A) → Type 0
  Firm W = (s : List ℕ) (at k : ℕ) → W s at ≡ Stuck k → FirmAt W s at k

  -- at the end of the text
  firm_end : (W : List ℕ → ℕ → Out A) (at k : ℕ) → at ≡ k → FirmAt W [] at k
  firm_end W at k e = (0, omega arith, omega arith, λ h s' q. absurd (omega arith))

  -- at the first byte
  firm_here : (W : List ℕ → ℕ → Out A) (c : ℕ) (s : List ℕ) (at k : ℕ) → at ≡ k → ((s' : List ℕ) → W (c ∷ s') at ≡ Stuck at) → FirmAt W (c ∷ s) at k
  firm_here W c s at k e all = (0, omega arith, omega arith, λ h s' q. on s' q)
    where
      on : (s' : List ℕ) → take 1 s' ≡ c ∷ [] → W s' at ≡ Stuck k
      on [] q = let z : ◌≡◌ {A = ℕ} 0 1 = cc in absurd (omega arith)
      on (c' ∷ s') q = let p : c' ≡ c = cc in subst (λ (x : ℕ). W (x ∷ s') at ≡ Stuck k) (sym p) (all s' ∙ ap Stuck e)

  -- after the first byte
  firm_next : (W U : List ℕ → ℕ → Out A) (c : ℕ) (s : List ℕ) (at k : ℕ) → FirmAt U s (at + 1) k → ((s' : List ℕ) → W (c ∷ s') at ≡ U s' (at + 1)) → FirmAt W (c ∷ s) at k
  firm_next W U c s at k (j, e, i, f) all = (suc j, omega arith, omega arith, λ h s' q. on h s' q)
    where
      on : suc j < suc (length s) → (s' : List ℕ) → take (suc (suc j)) s' ≡ c ∷ take (suc j) s → W s' at ≡ Stuck k
      on h [] q = let z : ◌≡◌ {A = ℕ} 0 1 = cc in absurd (omega arith)
      on h (c' ∷ s') q =
          let p : c' ≡ c = cc in
          let r : take (suc j) s' ≡ take (suc j) s = cc in
          subst (λ (x : ℕ). W (x ∷ s') at ≡ Stuck k) (sym p) (all s' ∙ f (omega arith) s' r)

  -- in what decides all texts with the same first byte
  firm_same : (W U : List ℕ → ℕ → Out A) (c : ℕ) (s : List ℕ) (at k : ℕ) → FirmAt U (c ∷ s) at k → ((s' : List ℕ) → W (c ∷ s') at ≡ U (c ∷ s') at) → FirmAt W (c ∷ s) at k
  firm_same W U c s at k (j, e, i, f) all = (j, e, i, λ h s' q. on h s' q (f h s' q))
    where
      on : j < suc (length s) → (s' : List ℕ) → take (suc j) s' ≡ c ∷ take j s → U s' at ≡ Stuck k → W s' at ≡ Stuck k
      on h [] q x = let z : ◌≡◌ {A = ℕ} 0 1 = cc in absurd (omega arith)
      on h (c' ∷ s') q x =
          let p : c' ≡ c = cc in
          subst (λ (y : ℕ). W (y ∷ s') at ≡ Stuck k) (sym p) (all s' ∙ subst (λ (y : ℕ). U (y ∷ s') at ≡ Stuck k) p x)

  pub firm_digits : (k : ℕ → Grammar A) → ((n : ℕ) → Firm (read_by (k n))) → (m v : ℕ) → Firm (λ s at. digits m v s at (λ n. read_by (k n)))
  unfolding digits
  firm_digits k ih m v [] at x e = let (j, q, i, f) = ih v [] at x e in (j, q, i, λ h s' r. absurd (omega arith))
  firm_digits k ih m v (c ∷ s) at x e =
      turn (fits v m c) refl e (λ y. firm_digits k ih m (v * 10 + (c - 48)) s (at + 1) x y)
    where
      turn : (b : Bool) → fits v m c ≡ b → cond b (digits m (v * 10 + (c - 48)) s (at + 1) (λ n. read_by (k n))) (read_by (k v) (c ∷ s) at) ≡ Stuck x
          → (digits m (v * 10 + (c - 48)) s (at + 1) (λ n. read_by (k n)) ≡ Stuck x → FirmAt (λ s at. digits m (v * 10 + (c - 48)) s at (λ n. read_by (k n))) s (at + 1) x)
          → FirmAt (λ s at. digits m v s at (λ n. read_by (k n))) (c ∷ s) at x
      turn true f e go =
          firm_next (λ s at. digits m v s at (λ n. read_by (k n))) (λ s at. digits m (v * 10 + (c - 48)) s at (λ n. read_by (k n))) c s at x (go e) (λ s'. rw f)
      turn false f e go = firm_same (λ s at. digits m v s at (λ n. read_by (k n))) (read_by (k v)) c s at x (ih v (c ∷ s) at x e) (λ s'. rw f)

  pub firm : (g : Grammar A) → Firm (read_by g)
  unfolding read_by numeral
  firm dead [] at x e = firm_end (read_by dead) at x (stuck_one e)
  firm dead (c ∷ s) at x e = firm_here (read_by dead) c s at x (stuck_one e) (λ s'. refl)
  firm (done a) [] at x e = absurd (apart e)
  firm (done a) (c ∷ s) at x e = firm_here (read_by (done a)) c s at x (stuck_one e) (λ s'. refl)
  firm (branch b g h) [] at x e = firm_end (read_by (branch b g h)) at x (stuck_one e)
  firm (branch b g h) (c ∷ s) at x e = turn (eqb c b) refl e (λ y. firm g s (at + 1) x y) (λ y. firm h (c ∷ s) at x y)
    where
      turn : (t : Bool) → eqb c b ≡ t → cond t (read_by g s (at + 1)) (read_by h (c ∷ s) at) ≡ Stuck x
          → (read_by g s (at + 1) ≡ Stuck x → FirmAt (read_by g) s (at + 1) x) → (read_by h (c ∷ s) at ≡ Stuck x → FirmAt (read_by h) (c ∷ s) at x)
          → FirmAt (read_by (branch b g h)) (c ∷ s) at x
      turn true f e y z = firm_next (read_by (branch b g h)) (read_by g) c s at x (y e) (λ s'. rw f)
      turn false f e y z = firm_same (read_by (branch b g h)) (read_by h) c s at x (z e) (λ s'. rw f)
  firm (value l m k) [] at x e = firm_end (read_by (value l m k)) at x (stuck_one e)
  firm (value l m k) (c ∷ s) at x e =
      turn (opens l m c) refl e (λ y. firm_digits k (λ n. firm (k n)) m (c - 48) s (at + 1) x y)
    where
      turn : (b : Bool) → opens l m c ≡ b → cond b (digits m (c - 48) s (at + 1) (λ n. read_by (k n))) (Stuck at) ≡ Stuck x
          → (digits m (c - 48) s (at + 1) (λ n. read_by (k n)) ≡ Stuck x → FirmAt (λ s at. digits m (c - 48) s at (λ n. read_by (k n))) s (at + 1) x)
          → FirmAt (read_by (value l m k)) (c ∷ s) at x
      turn true f e go =
          firm_next (read_by (value l m k)) (λ s at. digits m (c - 48) s at (λ n. read_by (k n))) c s at x (go e) (λ s'. rw f)
      turn false f e go = firm_here (read_by (value l m k)) c s at x (stuck_one e) (λ s'. rw f)
