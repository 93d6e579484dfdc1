-- A file that was read with nothing left over is a file of its numbers, padded or not, and its numbers pass the checks of writing. That they are good is known
-- without the bytes.
use Prim.Native.Nat.{ℕ, suc, ◌+◌, ◌≤◌}
use Rattle.std.specs.Prelude.{Ok}
use mathlib.Core.Path.{◌≡◌, refl, sym, ap, subst, ◌∙◌}
use mathlib.Core.List.{List, [], ◌++◌, append_assoc, append-nil}
use mathlib.Core.Bool.{true, false}
use native.Mathlib.Omega.{arith}
use lib.ListN.{length, get_or, drop, replicate, length-set, length-replicate, drop_of_length-le}
use Rattle.model.specs.declared.Field.{Field}
use Rattle.model.specs.Spelling.{Bytes, groups}
use Rattle.model.specs.File.{number_count, first_field, at_end, next_field, edition_in, unwritten, scanned, read_from, check_from, bytes_from, read_fields}
use Rattle.model.proofs.Cases.{by_bool}
use Rattle.fields.specs.Valid.{Valid}
use Rattle.spelling.proofs.RoundTrip.{Spelling, spelling}
use Rattle.editions.proofs.Fields.{none_read, some_read}
use Rattle.facts.proofs.Good.{goes_later}
use Rattle.facts.proofs.Agree.{alike_below, unwritten_agrees}
use Rattle.facts.proofs.Turns.{Reads, reads}
use Rattle.facts.proofs.Reading.{ReadInto, turned, read_into, number_read}
use Rattle.roundtrip.specs.Files.{Padded}
use Rattle.roundtrip.proofs.Ends.{good_ends}

-- The bytes that were read from `at` to `end` are those of the fields of m from c on.
record Back (s : List ℕ) (n at : ℕ) (c : Field) (end : ℕ) (m : List ℕ) : Type 0 where
  file : List ℕ
  padded : Padded m n c file
  bytes : drop at s ≡ file ++ drop end s

module _ (s : List ℕ) (n at : ℕ) (c : Field) (end : ℕ) (m : List ℕ) (v next : ℕ) (going : at_end c ≡ false) (here : get_or m c.place 0 ≡ v)
    (more : Back s n next (next_field c v) end m) where
  back_on : unwritten (edition_in m) c ≡ false → Spelling s at v next → Back s (suc n) at c end m
  back_on t r =
      record {
        file = groups r.size v ++ more.file;
        padded = subst (λ (x : ℕ). Padded m (suc n) c (groups r.size x ++ more.file)) here (Padded.on r.size going t (rw here r.enough) r.few (rw here more.padded));
        bytes = r.bytes ∙ ap (λ (t : List ℕ). groups r.size v ++ t) more.bytes ∙ sym (append_assoc (groups r.size v) more.file (drop end s));
      }

  back_past : unwritten (edition_in m) c ≡ true → next ≡ at → Back s (suc n) at c end m
  back_past t same = record { file = more.file; padded = Padded.skip {n = n} {rest = more.file} going t (rw here more.padded); bytes = rw (← same) more.bytes }

module _ (s : List ℕ) (byte : Bytes s) where
  back : {n at start : ℕ} {c : Field} {l : List ℕ} {end : ℕ} {m : List ℕ} → Valid c → length l ≡ number_count →
      Reads s n at start c l end m → Back s n at c end m
  back f size Reads.none = record { file = []; padded = Padded.none; bytes = refl }
  back f size (Reads.over e) = record { file = []; padded = Padded.over e; bytes = refl }
  back {at} {start} {c} {l} {end} {m} f size (Reads.on {n} v next e q r a more) =
      let here = number_read l v f size e r more in
      let into = turned {at = at} {start = start} f size (Reads.on {n = n} v next e q r a more) in
      let same : unwritten (edition_in m) c ≡ unwritten (edition_in l) c = unwritten_agrees m l f (alike_below c m l into.before) in
      let rest = back (goes_later l f e v r).valid (length-set l c.place v ∙ size) more in
      by_bool (unwritten (edition_in l) c)
      (λ t. back_past s n at c end m v next e here rest (same ∙ t) (none_read (edition_in l) c s at v next q t).1)
      (λ t. back_on s n at c end m v next e here rest (same ∙ t) (spelling s byte at v next (some_read (edition_in l) c s at v next q t)))

-- The numbers l that reading the whole of s leaves of z, if at most n fields are read.
pub record FileRead (n : ℕ) (z s l : List ℕ) : Type 0 where
  pub into : ReadInto n first_field z l
  pub padded : Padded l n first_field s
  pub checked : check_from n 0 0 first_field l ≡ Ok (length (bytes_from n first_field l))

whole : (n : ℕ) (z s l : List ℕ) (end : ℕ) → Bytes s → length z ≡ number_count → length s ≤ end →
    read_from n s 0 0 first_field z ≡ scanned (Ok end) l → FileRead n z s l
whole n z s l end byte size none_left e =
    let r : Back s n 0 first_field end l = back s byte Valid.edition size (reads s end l n 0 0 first_field z e) in
    let none : drop end s ≡ [] = drop_of_length-le s {i = end} none_left in
    let is : s ≡ r.file = r.bytes ∙ ap (λ (t : List ℕ). r.file ++ t) none ∙ append-nil r.file in
    let into : ReadInto n first_field z l = read_into s n 0 0 first_field z end l Valid.edition size e in
    let ends : 0 + length (bytes_from n first_field l) ≡ length (bytes_from n first_field l) = omega arith in
    record { into = into; padded = subst (λ (t : List ℕ). Padded l n first_field t) (sym is) r.padded; checked = good_ends into.good 0 0 ∙ ap Ok ends }

pub fields_file : (s l : List ℕ) (end : ℕ) → Bytes s → length s ≤ end → read_fields s ≡ scanned (Ok end) l →
    FileRead number_count (replicate number_count 0) s l
fields_file s l end byte none_left e =
    whole number_count (replicate number_count 0) s l end byte (length-replicate {A = ℕ} number_count 0) none_left e
