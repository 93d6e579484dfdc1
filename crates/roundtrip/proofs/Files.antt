-- Of all files of the same numbers the one without padding is the shortest, and no other is as short.
use Prim.Native.Nat.{ℕ, zero, suc, ◌+◌, ◌-◌, ◌≤◌}
use mathlib.Core.Path.{◌≡◌, refl, ap, ◌∙◌}
use mathlib.Core.List.{List, [], ◌++◌}
use mathlib.Core.Bool.{cond}
use native.Mathlib.Omega.{arith}
use lib.ListN.{length, get_or, length-append, get_or-append}
use lib.Seq.{get_or-append-add}
use Rattle.model.specs.declared.Field.{Field}
use Rattle.model.specs.Spelling.{Bytes, most_groups, number_size, groups, number_bytes}
use Rattle.model.specs.File.{at_end, next_field, edition_in, unwritten, field_bytes, bytes_from}
use Rattle.model.proofs.Cases.{by_cond, by_order}
use Rattle.fields.proofs.OneField.{bytes_over, bytes_on}
use Rattle.fields.proofs.Editions.{bytes_written, bytes_unwritten}
use Rattle.spelling.proofs.Laws.{size_five, groups_length, groups_bytes, bytes_length}
use Rattle.roundtrip.specs.Files.{Padded, wide_from}

module _ (l : List ℕ) (n : ℕ) (c : Field) where
  abbrev v : ℕ
  v = get_or l c.place 0

  abbrev edition : ℕ
  edition = edition_in l

  -- Bytes that are none at the end or where the number is not written, and else some number of its groups, with the bytes of the fields after it.
  grouped : (k : ℕ) (rest : List ℕ) → number_size v ≤ k → k ≤ most_groups → Padded l n (next_field c v) rest →
      Padded l (suc n) c (cond (at_end c) [] (cond (unwritten edition c) [] (groups k v) ++ rest))
  grouped k rest enough few more =
      by_cond (Padded l (suc n) c) (at_end c) Padded.over
      (λ e. by_cond (λ (b : List ℕ). Padded l (suc n) c (b ++ rest)) (unwritten edition c)
      (λ t. Padded.skip e t more) (λ t. Padded.on k e t enough few more))

-- What is written is one of the files.
pub unpadded : (l : List ℕ) (n : ℕ) (c : Field) → Padded l n c (bytes_from n c l)
unfolding bytes_from field_bytes
unpadded l zero c = Padded.none
unpadded l (suc n) c =
    grouped l n c (number_size (get_or l c.place 0)) _ (omega arith) (size_five (get_or l c.place 0)) (unpadded l n (next_field c (get_or l c.place 0)))

-- And so is what has every number in five bytes.
pub wide : (l : List ℕ) (n : ℕ) (c : Field) → Padded l n c (wide_from n c l)
unfolding wide_from
wide l zero c = Padded.none
wide l (suc n) c = grouped l n c most_groups _ (size_five (get_or l c.place 0)) (omega arith) (wide l n (next_field c (get_or l c.place 0)))

-- The bytes t are no fewer than the bytes b, and are b if they are no more.
pub record NoShorter (b t : List ℕ) : Type 0 where
  pub long : length b ≤ length t
  pub same : length t ≤ length b → t ≡ b

one_more_lem : (k v : ℕ) (b t : List ℕ) → number_size v ≤ k → NoShorter b t → NoShorter (number_bytes v ++ b) (groups k v ++ t)
one_more_lem k v b t enough r =
    let short : length (number_bytes v ++ b) ≡ number_size v + length b = length-append (number_bytes v) b ∙ ap (λ (n : ℕ). n + length b) (bytes_length v) in
    let wide : length (groups k v ++ t) ≡ k + length t = length-append (groups k v) t ∙ ap (λ (n : ℕ). n + length t) (groups_length k v) in
    record {
      long = omega (arith, r.long);
      same = λ h.
          let size : k ≡ number_size v = omega (arith, r.long) in
          let rest : t ≡ b = r.same (omega arith) in
          rw (size, rest);
    }

pub no_shorter : {l : List ℕ} {n : ℕ} {c : Field} {s : List ℕ} → Padded l n c s → NoShorter (bytes_from n c l) s
unfolding bytes_from
no_shorter Padded.none = record { long = omega arith; same = λ h. refl }
no_shorter {l} {c = c} (Padded.over {n} e) = rw (bytes_over n c l e) (record { long = omega arith; same = λ h. refl })
no_shorter {l} {c = c} (Padded.skip {n} e t more) = rw (bytes_on n c l _ e refl, bytes_unwritten (edition_in l) c t (get_or l c.place 0)) (no_shorter more)
no_shorter {l} {c = c} (Padded.on {n} {rest = rest} k e t enough few more) =
    rw (bytes_on n c l _ e refl, bytes_written (edition_in l) c t (get_or l c.place 0)) (one_more_lem k (get_or l c.place 0) _ rest enough (no_shorter more))

-- Files are bytes.
append_bytes : (a b : List ℕ) → Bytes a → Bytes b → Bytes (a ++ b)
append_bytes a b f g i =
    by_order i (length a) (λ h. rw (get_or-append a b 0 i h) (f i))
    (λ h. let past : length a + (i - length a) ≡ i = omega arith in
    let there : get_or (a ++ b) i 0 ≡ get_or b (i - length a) 0 = rw past at (get_or-append-add a b (i - length a) 0) in
    rw there (g (i - length a)))

pub padded_bytes : {l : List ℕ} {n : ℕ} {c : Field} {s : List ℕ} → Padded l n c s → Bytes s
padded_bytes Padded.none i = omega arith
padded_bytes (Padded.over e) i = omega arith
padded_bytes (Padded.skip e t more) i = padded_bytes more i
padded_bytes {l} {c = c} (Padded.on {rest = rest} k e t enough few more) i = append_bytes (groups k (get_or l c.place 0)) rest (groups_bytes k _) (λ j. padded_bytes more j) i
