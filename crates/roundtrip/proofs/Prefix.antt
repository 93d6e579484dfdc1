-- Reading looks at no byte past the longest file's.
use Prim.Native.Nat.{ℕ, zero, suc, ◌+◌, ◌*◌, ◌≤◌, ◌<◌}
use Rattle.std.specs.Prelude.{Err, Ok, Result}
use Rattle.model.specs.declared.Refusal.{Refusal}
use Rattle.model.specs.declared.Misread.{Misread}
use Rattle.model.specs.declared.Misread.TheVariants.{Ended, Misspelt}
use mathlib.Core.Path.{◌≡◌, refl, ap}
use mathlib.Core.List.{List}
use mathlib.Core.Bool.{false}
use native.Mathlib.Omega.{arith}
use lib.Dec.{leb}
use lib.ListN.{length, take, set, replicate}
use lib.Seq.{length-take-le, take_all}
use borrow.Author.Tests.{lt-ltb, leb-true, leb-false}
use Rattle.model.specs.declared.Field.{Field}
use Rattle.model.specs.File.{number_count, read_length, first_field, at_end, next_field, edition_in, read_field, item_start, Scan, scanned, read_from}
use Rattle.model.specs.Operations.{read_rest, read_file}
use Rattle.model.proofs.Cases.{by_bool}
use Rattle.editions.proofs.Fields.{field_near, field_prefix, field_never_ended}
use Rattle.facts.proofs.Turns.{Reads, reads}

-- Reading ends at most five bytes on for each field.
reads_near : {s : List ℕ} {n at start : ℕ} {c : Field} {l : List ℕ} {end : ℕ} {m : List ℕ} → Reads s n at start c l end m → end ≤ at + 5 * n
reads_near Reads.none = omega arith
reads_near (Reads.over e) = omega arith
reads_near {s} {at} {c = c} {l = l} (Reads.on v next e q r a more) = omega (arith, reads_near more, field_near (edition_in l) c s at v next q)

module _ (s : List ℕ) (k : ℕ) (cut : k ≤ length s) where
  abbrev Same : ℕ → ℕ → ℕ → Field → List ℕ → Type 0
  Same n at start c l = read_from n (take k s) at start c l ≡ read_from n s at start c l

  number_same : (n at start : ℕ) (c : Field) (l : List ℕ) → at + 5 ≤ k → at_end c ≡ false →
      ((v next : ℕ) → read_field (edition_in l) s at c ≡ Ok (v, next) → Same n next (item_start c at start) (next_field c v) (set l c.place v)) →
      (r : Result (ℕ × ℕ) Misread) → read_field (edition_in l) s at c ≡ r → Same (suc n) at start c l
  unfolding read_from
  number_same n at start c l room e more (Ok (v, next)) q = simp (e, field_prefix (edition_in l) c s k at room cut, q, more v next q)
  number_same n at start c l room e more (Err Ended) q = absurd (field_never_ended (edition_in l) c s at (omega arith) q)
  number_same n at start c l room e more (Err Misspelt) q = simp (e, field_prefix (edition_in l) c s k at room cut, q)

  scan_prefix : (n at start : ℕ) (c : Field) (l : List ℕ) → at + 5 * n < k → Same n at start c l
  unfolding read_from
  scan_prefix zero at start c l room = refl
  scan_prefix (suc n) at start c l room =
      by_bool (at_end c) (λ e. simp e)
      (λ e. number_same n at start c l (omega arith) e
      (λ v next q. scan_prefix n next (item_start c at start) (next_field c v) (set l c.place v) (omega (arith, field_near (edition_in l) c s at v next q)))
      (read_field (edition_in l) s at c) refl)

  -- Where reading is done before k, bytes are left over in both.
  rest_same : (a : Result ℕ Refusal) (l : List ℕ) → ((at : ℕ) → a ≡ Ok at → at < k) → read_rest k a l ≡ read_rest (length s) a l
  rest_same (Ok at) l below =
      let h : at < k = below at refl in
      simp (lt-ltb at k h, lt-ltb at (length s) (omega arith))
  rest_same (Err f) l below = refl

  fields_same : (n : ℕ) (z : List ℕ) → 5 * n < k →
      read_rest (length (take k s)) (read_from n (take k s) 0 0 first_field z).answer (read_from n (take k s) 0 0 first_field z).numbers
      ≡ read_rest (length s) (read_from n s 0 0 first_field z).answer (read_from n s 0 0 first_field z).numbers
  fields_same n z room =
      let x : Scan = read_from n s 0 0 first_field z in
      rw (scan_prefix n 0 0 first_field z (omega arith), length-take-le k s cut)
      (rest_same x.answer x.numbers
      (λ at q. let e : x ≡ scanned (Ok at) x.numbers = ap (λ (a : Result ℕ Refusal). scanned a x.numbers) q in
      omega (arith, reads_near (reads s at x.numbers n 0 0 first_field z e))))

-- A file cut off after the bytes that reading may look at is read alike.
pub read_prefix : (s : List ℕ) (k : ℕ) → read_length ≤ k → read_file (take k s) ≡ read_file s
unfolding read_file
read_prefix s k far =
    by_bool (leb k (length s))
    (λ e. fields_same s k (leb-true k (length s) e) number_count (replicate number_count 0) (omega arith))
    (λ e. ap read_file (take_all k s (omega (arith, leb-false k (length s) e))))
