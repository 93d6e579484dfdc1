-- What a step over a table of words does to its sum and its members: one store, and a row gained word by word.
use Prim.Native.Nat.{ℕ, zero, suc, ◌+◌, ◌≤◌, ◌<◌}
use mathlib.Core.Path.{◌≡◌, refl, sym, ap, subst, ◌∙◌}
use mathlib.Core.List.{List, [], ◌∷◌}
use mathlib.Core.Bool.{Bool, true, false, not, ◌||◌}
use mathlib.Core.Logic.{◌⊎◌, inl, inr, ⊎_elim, ◌↔◌}
use native.Mathlib.Omega.{arith}
use lib.ListN.{length, get_or, set, replicate, length-set}
use lib.Seq.{get_or-set_same, get_or-set_other, set-get_or}
use lib.Dec.{eqb}
use lib.Bits.{bit_or}
use borrow.Author.Tests.{eqb-true, eqb-false}
use Rattle.model.specs.Results.{Member}
use Rattle.model.proofs.Cases.{by_bool, by_order, true_not_false}
use Rattle.model.proofs.Lists.{get_or-replicate_self}
use Rattle.bits.specs.Words.{Has, sum, one, Grown, Step, Row}
use Rattle.bits.proofs.Bits.{none_in_zero, le_or, or_left, or_right, or_only}

pub sum_set : (ws : List ℕ) (i x : ℕ) → i < length ws → sum (set ws i x) + get_or ws i 0 ≡ sum ws + x
unfolding sum
sum_set [] i x h = absurd (omega arith)
sum_set (w ∷ ws) zero x h = omega arith
sum_set (w ∷ ws) (suc i) x h = omega (arith, sum_set ws i x (omega arith))

pub unchanged : (ws : List ℕ) → Grown ws ws false
unchanged ws = record { raised = omega arith; kept = λ k b h. h }

one_or : (a b : Bool) → one (a || b) ≤ one a + one b
one_or true b = omega arith
one_or false b = omega arith

pub neither : (a b : Bool) → (a || b) ≡ false → (a ≡ false) × (b ≡ false)
neither true b e = true_not_false e
neither false b e = (refl, e)

pub grown_more : {ws mid after : List ℕ} {changed gained : Bool} → Grown ws mid changed → Grown mid after gained → Grown ws after (changed || gained)
grown_more {changed = c} {gained = d} s t = record {
  raised = omega (arith, s.raised, t.raised, one_or c d);
  kept = λ k b h. t.kept k b (s.kept k b h);
}

-- The same step, what it adds said otherwise.
pub restated : {Adds Adds' : ℕ → ℕ → Type 0} {ws after : List ℕ} {changed : Bool} →
    ((k b : ℕ) → Adds k b ↔ Adds' k b) → Step Adds ws after changed → Step Adds' ws after changed
restated same s = record {
  long = s.long;
  grown = s.grown;
  same = s.same;
  added = λ k b a. s.added k b ((same k b).1 a);
  only = λ k b h. ⊎_elim inl (λ a. inr ((same k b).0 a)) (s.only k b h);
}

-- Word `at` gains the members of `add`.
module _ (ws : List ℕ) (at add : ℕ) where
  abbrev gained : ℕ
  gained = bit_or (get_or ws at 0) add

  abbrev Gain : ℕ → ℕ → Type 0
  Gain k b = (k ≡ at) × Member add b

  module _ (inside : at < length ws) where
    there : (b : ℕ) → Has (set ws at gained) at b ↔ (Has ws at b ⊎ Member add b)
    there b =
        let e : get_or (set ws at gained) at 0 ≡ gained = get_or-set_same ws at gained 0 inside in (
          λ h. or_only (get_or ws at 0) add b (subst (λ (w : ℕ). Member w b) e h),
          ⊎_elim
              (λ h. subst (λ (w : ℕ). Member w b) (sym e) (or_left (get_or ws at 0) add b h))
              (λ h. subst (λ (w : ℕ). Member w b) (sym e) (or_right (get_or ws at 0) add b h)),
        )

    kept : (k b : ℕ) → Has ws k b → Has (set ws at gained) k b
    kept k b h = by_bool (eqb k at)
        (λ q.
        let e : k ≡ at = eqb-true k at q in
        subst (λ (i : ℕ). Has (set ws at gained) i b) (sym e) ((there b).1 (inl (subst (λ (i : ℕ). Has ws i b) e h))))
        (λ q. rw (get_or-set_other ws at k gained 0 (eqb-false k at q)) h)

    only : (k b : ℕ) → Has (set ws at gained) k b → Has ws k b ⊎ Gain k b
    only k b h = by_bool (eqb k at)
        (λ q.
        let e : k ≡ at = eqb-true k at q in
        ⊎_elim
        (λ m. inl (subst (λ (i : ℕ). Has ws i b) (sym e) m))
        (λ m. inr (e, m))
        ((there b).0 (subst (λ (i : ℕ). Has (set ws at gained) i b) e h)))
        (λ q. inl (rw (get_or-set_other ws at k gained 0 (eqb-false k at q)) at h))

    pub gain_step : Step Gain ws (set ws at gained) (not (eqb gained (get_or ws at 0)))
    gain_step = record {
      long = length-set ws at gained;
      grown = record { raised = more; kept = kept };
      same = λ e. rw (eqb-true gained (get_or ws at 0) (was e)) (set-get_or ws at 0);
      added = λ k b a. subst (λ (i : ℕ). Has (set ws at gained) i b) (sym a.0) ((there b).1 (inr a.1));
      only = only;
    }
      where
        was : not (eqb gained (get_or ws at 0)) ≡ false → eqb gained (get_or ws at 0) ≡ true
        was e = by_bool (eqb gained (get_or ws at 0)) (λ q. q) (λ q. true_not_false (sym (ap not q) ∙ e))

        more : one (not (eqb gained (get_or ws at 0))) + sum ws ≤ sum (set ws at gained)
        more = by_bool (eqb gained (get_or ws at 0))
            (λ q. rw q (omega (arith, sum_set ws at gained inside, le_or (get_or ws at 0) add)))
            (λ q. rw q (omega (arith, sum_set ws at gained inside, le_or (get_or ws at 0) add, eqb-false gained (get_or ws at 0) q)))

-- A cleared table has no member.
pub none_in_cleared : (n k b : ℕ) → Has (replicate n 0) k b → ⊥
none_in_cleared n k b h = none_in_zero b (subst (λ (w : ℕ). Member w b) (get_or-replicate_self n k 0) h)

-- A row of one word is gained whole.
pub one_word_row : (add : ℕ) {v : ℕ} {ws after : List ℕ} {changed : Bool} → Step (λ k b. (k ≡ v) × Member add b) ws after changed →
    Step (Row (λ f. v) (λ f b. Member add b) 1) ws after changed
one_word_row add = restated (λ k b. (λ a. (0, (omega arith, a)), λ (f, (lt, a)). a))

-- A row gained word by word.
module _ (at : ℕ → ℕ) (In : ℕ → ℕ → Type 0) (ws : List ℕ) where
  pub no_word : Step (Row at In 0) ws ws false
  no_word = record {
    long = refl;
    grown = unchanged ws;
    same = λ _. refl;
    added = λ k b a. absurd (omega (arith, a.1.0));
    only = λ k b h. inl h;
  }

  pub one_word : (n : ℕ) (mid after : List ℕ) (changed now : Bool) → Step (Row at In n) ws mid changed → Step (λ k b. (k ≡ at n) × In n b) mid after now →
      Step (Row at In (n + 1)) ws after (changed || now)
  one_word n mid after changed now s t = record {
    long = t.long ∙ s.long;
    grown = grown_more s.grown t.grown;
    same = λ e. t.same (neither changed now e).1 ∙ s.same (neither changed now e).0;
    added = λ k b a. by_order a.0 n
        (λ lt. t.grown.kept k b (s.added k b (a.0, (lt, a.1.1))))
        (λ le.
        let e : a.0 ≡ n = omega (arith, a.1.0) in
        t.added k b (subst (λ (f : ℕ). (k ≡ at f) × In f b) e a.1.1));
    only = λ k b h. ⊎_elim
        (λ m. ⊎_elim inl (λ (f, (lt, a)). inr (f, (omega arith, a))) (s.only k b m))
        (λ a. inr (n, (omega arith, a)))
        (t.only k b h);
  }
