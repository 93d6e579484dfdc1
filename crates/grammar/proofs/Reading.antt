-- Reading says what it must: what a text means, or the first byte that fits no continuation. Nothing else may be said, and no two meanings share a text.
use Prim.Native.Nat.{ℕ, suc, ◌+◌, ◌-◌, ◌≤◌, ◌<◌}
use native.Mathlib.Omega.{arith}
use native.Mathlib.Decide.{dec_lt}
use mathlib.Core.Path.{◌≡◌, refl, sym, ap, ◌∙◌, subst}
use mathlib.Core.List.{List, ◌++◌, append_assoc}
use mathlib.Core.Logic.{◌⊎◌, inl, inr}
use lib.ListN.{length, take, drop, take-append-drop}
use lib.Seq.{take-append_seam, length-take-le, take-take}
use Rattle.grammar.specs.Grammar.{Grammar, Out, Meant, Stuck, read_by, Spells, Alive, Starts, Good, Reads}
use Rattle.grammar.proofs.Meaning.{apart, meant_one, gives_back, means}
use Rattle.grammar.proofs.Firm.{firm}
use Rattle.grammar.proofs.Begun.{begun}

module _ {A : Type 0} where
  -- Reading says what it must.
  pub reads : (g : Grammar A) → Good g → Alive g → (s : List ℕ) → Reads g s (read_by g s 0)
  reads g ok alive s = at (read_by g s 0) refl
    where
      place : (k : ℕ) → read_by g s 0 ≡ Stuck k → (j : ℕ) × (k ≡ 0 + j) × (j ≤ length s) × (j < length s → (s' : List ℕ) → take (suc j) s' ≡ take (suc j) s → read_by g s' 0 ≡ Stuck k) → Reads g s (Stuck k)
      place k e (j, p, i, f) =
          let q : j ≡ k = omega arith in (
            (λ a x. apart (sym (gives_back g ok s a x 0) ∙ e)),
            omega arith,
            start (begun g ok s 0 k (e ∙ ap Stuck (omega arith))),
            λ h (t, (a, x)). apart (sym (gives_back g ok (take (suc k) s ++ t) a x 0) ∙ f (omega arith) (take (suc k) s ++ t) (agree j q h t)),
          )
        where
          start : (k ≡ 0) ⊎ Starts g (take k s) → Starts g (take k s)
          start (inl z) = let (t, (a, x)) = alive in (t, (a, subst (λ (y : ℕ). Spells g (take y s ++ t) a) (sym z) x))
          start (inr x) = x

          agree : (j : ℕ) → j ≡ k → k < length s → (t : List ℕ) → take (suc j) (take (suc k) s ++ t) ≡ take (suc j) s
          agree j q h t =
              subst (λ (y : ℕ). take (suc y) (take (suc k) s ++ t) ≡ take (suc y) s) (sym q)
              (ap (λ (y : ℕ). take y (take (suc k) s ++ t)) (sym (length-take-le (suc k) s (omega arith))) ∙ take-append_seam (take (suc k) s) t)

      at : (o : Out A) → read_by g s 0 ≡ o → Reads g s o
      at (Meant a) e = means g s 0 a e
      at (Stuck k) e = place k e (firm g s 0 k e)

  -- Nothing else may be said, and no two share a sentence.
  shorter : (g : Grammar A) (s : List ℕ) (i k : ℕ) → i ≤ k → Starts g (take k s) → Starts g (take i s)
  shorter g s i k l (t, (a, x)) =
      (drop i (take k s) ++ t, (a, subst (λ (y : List ℕ). Spells g y a) (sym (ap (λ (y : List ℕ). y ++ (drop i (take k s) ++ t)) (sym (take-take i k s l)) ∙ sym (append_assoc (take i (take k s)) (drop i (take k s)) t) ∙ ap (λ (y : List ℕ). y ++ t) (take-append-drop i (take k s)))) x))

  pub one_meaning : (g : Grammar A) → Good g → (s : List ℕ) (a b : A) → Spells g s a → Spells g s b → a ≡ b
  one_meaning g ok s a b x y = meant_one (sym (gives_back g ok s a x 0) ∙ gives_back g ok s b y 0)

  pub decided : (g : Grammar A) → Good g → (s : List ℕ) (o p : Out A) → Reads g s o → Reads g s p → o ≡ p
  decided g ok s (Meant a) (Meant b) x y = ap Meant (one_meaning g ok s a b x y)
  decided g ok s (Meant a) (Stuck k) x y = absurd (y.0 a x)
  decided g ok s (Stuck k) (Meant a) x y = absurd (x.0 a y)
  decided g ok s (Stuck j) (Stuck k) x y = at (dec_lt j k) (dec_lt k j)
    where
      at : Dec (j < k) → Dec (k < j) → ◌≡◌ {A = Out A} (Stuck j) (Stuck k)
      at (yes l) q = absurd (x.3 (let z = y.1 in omega arith) (shorter g s (suc j) k l y.2))
      at (no n) (yes l) = absurd (y.3 (let z = x.1 in omega arith) (shorter g s (suc k) j l x.2))
      at (no n) (no m) = ap Stuck (omega (arith, n, m))
