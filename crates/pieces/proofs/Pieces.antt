-- Reading by a grammar is reading its pieces in turn, each at a position of one text.
use Prim.Native.Nat.{ℕ, suc, ◌+◌, ◌-◌, ◌*◌, ◌≤◌}
use Rattle.std.specs.Prelude.{Err, None, Ok, Some}
use native.Mathlib.Omega.{arith}
use mathlib.Core.Path.{◌≡◌, refl, sym, ap, ◌∙◌}
use mathlib.Core.Bool.{Bool, true, false, cond}
use mathlib.Core.List.{List, [], ◌∷◌}
use lib.ListN.{length, drop, length-drop}
use lib.Seq.{drop-drop}
use lib.Dec.{eqb}
use Rattle.grammar.specs.Numerals.{opens, fits, digits, numeral}
use Rattle.grammar.specs.Grammar.{Grammar, value, texts, Out, Stuck, read_by}
use Rattle.grammar.proofs.Numerals.{opens_gives, fits_gives}
use Rattle.model.proofs.Answers.{some_pair}
use Rattle.pieces.specs.Pieces.{pass_words, found, read_value}

-- One piece read: `next` is j bytes on, and what is left is read from there.
pub record Onward {A : Type 0} (read : Out A) (then : List ℕ → ℕ → Out A) (t : List ℕ) (at next : ℕ) : Type 0 where
  pub steps : ℕ
  pub next_is : next ≡ at + steps
  pub within : steps ≤ length t
  pub same : read ≡ then (drop steps t) next

module _ {A : Type 0} {then : List ℕ → ℕ → Out A} where
  -- Nothing more of the piece, and one byte more.
  onward_none : (t : List ℕ) (at next : ℕ) → at ≡ next → Onward (then t at) then t at next
  onward_none t at next e = record { steps = 0; next_is = omega arith; within = omega arith; same = ap (λ (x : ℕ). then t x) e }

  onward_more : {read : Out A} (c : ℕ) (t : List ℕ) (at next : ℕ) → Onward read then t (at + 1) next → Onward read then (c ∷ t) at next
  onward_more c t at next o = record { steps = suc o.steps; next_is = omega (arith, o.next_is); within = omega (arith, o.within); same = o.same }

-- Digits that were read are a number.
always : (most v : ℕ) (t : List ℕ) (at : ℕ) → digits most v t at found ≡ None → ⊥
unfolding digits
always most v [] at e = let z : ◌≡◌ {A = ℕ} 0 1 = cc in omega arith
always most v (c ∷ t) at e = turn (fits v most c) e (λ q. always most (v * 10 + (c - 48)) t (at + 1) q)
  where
    turn : (b : Bool) → cond b (digits most (v * 10 + (c - 48)) t (at + 1) found) (Some (v, at)) ≡ None → (digits most (v * 10 + (c - 48)) t (at + 1) found ≡ None → ⊥) → ⊥
    turn true e ih = ih e
    turn false e ih = let z : ◌≡◌ {A = ℕ} 0 1 = cc in omega arith

module _ {A : Type 0} where
  -- Fixed words: all of them, or up to the first byte that differs.
  words_onward : (w : List ℕ) (g : Grammar A) (t : List ℕ) (at next : ℕ) → pass_words w t at ≡ Ok next → Onward (read_by (texts w g) t at) (read_by g) t at next
  unfolding pass_words read_by
  words_onward [] g t at next e = onward_none t at next (cc)
  words_onward (b ∷ w) g [] at next e = let z : ◌≡◌ {A = ℕ} 0 1 = cc in absurd (omega arith)
  words_onward (b ∷ w) g (c ∷ t) at next e = turn (eqb c b) e (λ q. words_onward w g t (at + 1) next q)
    where
      turn : (b : Bool) → cond b (pass_words w t (at + 1)) (Err at) ≡ Ok next → (pass_words w t (at + 1) ≡ Ok next → Onward (read_by (texts w g) t (at + 1)) (read_by g) t (at + 1) next) →
          Onward (cond b (read_by (texts w g) t (at + 1)) (Stuck at)) (read_by g) (c ∷ t) at next
      turn true e ih = onward_more c t at next (ih e)
      turn false e ih = let z : ◌≡◌ {A = ℕ} 0 1 = cc in absurd (omega arith)

  pub words_stopped : (w : List ℕ) (g : Grammar A) (t : List ℕ) (at k : ℕ) → pass_words w t at ≡ Err k → read_by (texts w g) t at ≡ Stuck k
  unfolding pass_words read_by
  words_stopped [] g t at k e = let z : ◌≡◌ {A = ℕ} 0 1 = cc in absurd (omega arith)
  words_stopped (b ∷ w) g [] at k e = cc
  words_stopped (b ∷ w) g (c ∷ t) at k e = turn (eqb c b) e (λ q. words_stopped w g t (at + 1) k q)
    where
      turn : (b : Bool) → cond b (pass_words w t (at + 1)) (Err at) ≡ Err k → (pass_words w t (at + 1) ≡ Err k → read_by (texts w g) t (at + 1) ≡ Stuck k) →
          cond b (read_by (texts w g) t (at + 1)) (Stuck at) ≡ Stuck k
      turn true e ih = ih e
      turn false e ih = cc

  -- A number, which is in its range, and then what follows it.
  record Counted (k : ℕ → Grammar A) (least most : ℕ) (read : Out A) (t : List ℕ) (at n next : ℕ) : Type 0 where
    low : least ≤ n
    high : n ≤ most
    onward : Onward read (read_by (k n)) t at next

  no_more : (k : ℕ → Grammar A) (least most v : ℕ) → least ≤ v → v ≤ most → (t : List ℕ) (at n next : ℕ) → v ≡ n → at ≡ next →
      Counted k least most (read_by (k v) t at) t at n next
  no_more k least most v lo hi t at n next p q = rw p (record { low = omega arith; high = omega arith; onward = onward_none t at next q })

  digits_counted : (k : ℕ → Grammar A) (least most v : ℕ) → least ≤ v → v ≤ most → (t : List ℕ) (at n next : ℕ) → digits most v t at found ≡ Some (n, next) →
      Counted k least most (digits most v t at (λ n. read_by (k n))) t at n next
  unfolding digits
  digits_counted k least most v lo hi [] at n next e = let p = some_pair e in no_more k least most v lo hi [] at n next p.0 p.1
  digits_counted k least most v lo hi (c ∷ t) at n next e =
      turn (fits v most c) refl e (λ up top q. digits_counted k least most (v * 10 + (c - 48)) up top t (at + 1) n next q)
    where
      turn : (b : Bool) → fits v most c ≡ b → cond b (digits most (v * 10 + (c - 48)) t (at + 1) found) (Some (v, at)) ≡ Some (n, next) →
          (least ≤ v * 10 + (c - 48) → v * 10 + (c - 48) ≤ most → digits most (v * 10 + (c - 48)) t (at + 1) found ≡ Some (n, next) →
          Counted k least most (digits most (v * 10 + (c - 48)) t (at + 1) (λ n. read_by (k n))) t (at + 1) n next) →
          Counted k least most (cond b (digits most (v * 10 + (c - 48)) t (at + 1) (λ n. read_by (k n))) (read_by (k v) (c ∷ t) at)) (c ∷ t) at n next
      turn true f e ih =
          let more = ih (omega (arith, fits_gives v most c f)) (fits_gives v most c f).3 e in
          record { low = more.low; high = more.high; onward = onward_more c t at next more.onward }
      turn false f e ih = let p = some_pair e in no_more k least most v lo hi (c ∷ t) at n next p.0 p.1

  value_counted : (k : ℕ → Grammar A) (least most : ℕ) (t : List ℕ) (at n next : ℕ) → read_value least most t at ≡ Some (n, next) →
      Counted k least most (read_by (value least most k) t at) t at n next
  unfolding read_value read_by numeral
  value_counted k least most [] at n next e = let z : ◌≡◌ {A = ℕ} 0 1 = cc in absurd (omega arith)
  value_counted k least most (c ∷ t) at n next e = turn (opens least most c) refl e
    where
      turn : (b : Bool) → opens least most c ≡ b → cond b (digits most (c - 48) t (at + 1) found) None ≡ Some (n, next) →
          Counted k least most (cond b (digits most (c - 48) t (at + 1) (λ n. read_by (k n))) (Stuck at)) (c ∷ t) at n next
      turn true f e =
          let first = opens_gives least most c f in
          let more = digits_counted k least most (c - 48) first.2 first.3 t (at + 1) n next e in
          record { low = more.low; high = more.high; onward = onward_more c t at next more.onward }
      turn false f e = let z : ◌≡◌ {A = ℕ} 0 1 = cc in absurd (omega arith)

  pub value_missing : (k : ℕ → Grammar A) (least most : ℕ) (t : List ℕ) (at : ℕ) → read_value least most t at ≡ None → read_by (value least most k) t at ≡ Stuck at
  unfolding read_value read_by numeral
  value_missing k least most [] at e = refl
  value_missing k least most (c ∷ t) at e = turn (opens least most c) e
    where
      turn : (b : Bool) → cond b (digits most (c - 48) t (at + 1) found) None ≡ None → cond b (digits most (c - 48) t (at + 1) (λ n. read_by (k n))) (Stuck at) ≡ Stuck at
      turn true e = absurd (always most (c - 48) t (at + 1) e)
      turn false e = refl

-- In a text s, from a position on.
module _ {A : Type 0} (s : List ℕ) (at next : ℕ) (low : at ≤ length s) where
  onward_at : {read : Out A} {then : List ℕ → ℕ → Out A} → Onward read then (drop at s) at next → (next ≤ length s) × (read ≡ then (drop next s) next)
  onward_at {read} {then} o = (
    omega (arith, o.next_is, o.within, length-drop at s),
    o.same ∙ ap (λ (t : List ℕ). then t next) (drop-drop o.steps at s ∙ ap (λ (n : ℕ). drop n s) (sym o.next_is)),
  )

  pub words_passed : (w : List ℕ) (g : Grammar A) → pass_words w (drop at s) at ≡ Ok next →
      (next ≤ length s) × (read_by (texts w g) (drop at s) at ≡ read_by g (drop next s) next)
  words_passed w g e = onward_at (words_onward w g (drop at s) at next e)

  pub value_read : (k : ℕ → Grammar A) (least most n : ℕ) → read_value least most (drop at s) at ≡ Some (n, next) →
      (least ≤ n) × (n ≤ most) × (next ≤ length s) × (read_by (value least most k) (drop at s) at ≡ read_by (k n) (drop next s) next)
  value_read k least most n e =
      let c = value_counted k least most (drop at s) at n next e in
      let o = onward_at c.onward in
      (c.low, c.high, o.0, o.1)
