-- How reading to the end goes: the turns of `read_from`, each with what its tests found, to be gone through by cases.
use Prim.Native.Nat.{ℕ, zero, suc}
use Rattle.std.specs.Prelude.{Err, Ok, Result}
use Rattle.model.specs.declared.Misread.{Misread}
use Rattle.model.specs.declared.Misread.TheVariants.{Ended, Misspelt}
use mathlib.Core.Path.{◌≡◌, refl, ap}
use mathlib.Core.List.{List}
use mathlib.Core.Bool.{true, false}
use lib.ListN.{length, set}
use Rattle.model.specs.declared.Refusal.{Refusal}
use Rattle.model.specs.declared.Field.{Field}
use Rattle.model.specs.File.{at_end, next_field, edition_in, read_field, in_range, ascends, item_start, Scan, scanned, on_number, read_from}
use Rattle.model.proofs.Answers.{refused_not_done}
use Rattle.model.proofs.Cases.{by_cond}

-- At most n fields of the bytes s, read from c on into l, end at `end` and leave m.
pub data Reads (s : List ℕ) : ℕ → ℕ → ℕ → Field → List ℕ → ℕ → List ℕ → Type 0 where
  none : {at start : ℕ} {c : Field} {l : List ℕ} → Reads s zero at start c l at l
  over : {n at start : ℕ} {c : Field} {l : List ℕ} → at_end c ≡ true → Reads s (suc n) at start c l at l
  on : {n at start : ℕ} {c : Field} {l : List ℕ} {end : ℕ} {m : List ℕ} (v next : ℕ) → at_end c ≡ false → read_field (edition_in l) s at c ≡ Ok (v, next) →
      in_range l c v ≡ true → ascends (set l c.place v) c ≡ true →
      Reads s n next (item_start c at start) (next_field c v) (set l c.place v) end m → Reads s (suc n) at start c l end m

pub is_read : {s : List ℕ} {n at start : ℕ} {c : Field} {l : List ℕ} {end : ℕ} {m : List ℕ} →
    Reads s n at start c l end m → read_from n s at start c l ≡ scanned (Ok end) m
unfolding read_from
is_read Reads.none = refl
is_read (Reads.over e) = simp e
is_read (Reads.on v next e q r a more) = simp (e, q, r, a) (is_read more)

-- What an end of reading tells, if it is that of m at `end`.
module _ {end : ℕ} {m : List ℕ} where
  done_there : (P : ℕ → List ℕ → Type 0) (at : ℕ) (l : List ℕ) → P at l → scanned (Ok at) l ≡ scanned (Ok end) m → P end m
  done_there P at l p e =
      let a : Ok at ≡ Ok end = ap (λ (x : Scan). x.answer) e in
      let q : at ≡ end = cc in
      let t : l ≡ m = ap (λ (x : Scan). x.numbers) e in
      rw (← q, ← t) p

  never_refused : {P : Type 0} (f : Refusal) (l : List ℕ) → scanned (Err f) l ≡ scanned (Ok end) m → P
  never_refused f l e = refused_not_done (ap (λ (x : Scan). x.answer) e)

  on_value : {P : Type 0} (r : Result (ℕ × ℕ) Misread) (size at : ℕ) (l : List ℕ) (go : ℕ → ℕ → Scan) → ((v next : ℕ) → r ≡ Ok (v, next) → go v next ≡ scanned (Ok end) m → P) →
      on_number r size at l go ≡ scanned (Ok end) m → P
  on_value (Ok (v, next)) size at l go f = f v next refl
  on_value (Err Ended) size at l go f = never_refused _ l
  on_value (Err Misspelt) size at l go f = never_refused _ l

module _ (s : List ℕ) (end : ℕ) (m : List ℕ) where
  abbrev Told : ℕ → ℕ → ℕ → Field → List ℕ → Scan → Type 0
  Told n at start c l x = x ≡ scanned (Ok end) m → Reads s n at start c l end m

  pub reads : (n at start : ℕ) (c : Field) (l : List ℕ) → read_from n s at start c l ≡ scanned (Ok end) m → Reads s n at start c l end m
  unfolding read_from
  reads zero at start c l = done_there (λ e k. Reads s zero at start c l e k) at l Reads.none
  reads (suc n) at start c l =
      let P : Scan → Type 0 = Told (suc n) at start c l in
      by_cond P (at_end c) (λ e. done_there (λ o k. Reads s (suc n) at start c l o k) at l (Reads.over e))
      (λ e. on_value (read_field (edition_in l) s at c) (length s) at l _
      (λ v next q. by_cond P (in_range l c v)
      (λ r. by_cond P (ascends (set l c.place v) c)
      (λ a o. Reads.on v next e q r a (reads n next (item_start c at start) (next_field c v) (set l c.place v) o))
      (λ a. never_refused _ _))
      (λ r. never_refused _ _)))
