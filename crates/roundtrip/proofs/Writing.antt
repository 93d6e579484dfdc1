-- Numbers that pass the checks of writing are read back from every file of theirs, padded or not.
use Prim.Native.Nat.{ℕ, ◌+◌, ◌<◌}
use Rattle.std.specs.Prelude.{Ok}
use mathlib.Core.Path.{◌≡◌, refl, sym, ap, ◌∙◌}
use mathlib.Core.List.{List, [], ◌++◌, append_assoc, append-nil}
use mathlib.Core.Bool.{true, false}
use native.Mathlib.Omega.{arith}
use lib.ListN.{length, get_or, set, replicate, length-append, length-set, length-replicate}
use lib.Seq.{get_or-set_same, get_or-set_other}
use borrow.Author.Tests.{leb-false}
use Rattle.model.specs.declared.Field.{Field}
use Rattle.model.specs.Spelling.{read_number, groups}
use Rattle.model.specs.File.{number_count, first_field, edition_in, unwritten, in_range, ascends, scanned, read_from, read_fields, cleared}
use Rattle.fields.specs.Valid.{Valid}
use Rattle.fields.specs.Fill.{fill_from}
use Rattle.fields.proofs.Rows.{greatest_below}
use Rattle.fields.proofs.Steps.{placed, in_row}
use Rattle.fields.proofs.Editions.{read_written, read_unwritten}
use Rattle.fields.proofs.OneField.{Passed, fill_over, fill_on}
use Rattle.spelling.proofs.RoundTrip.{read_padded}
use Rattle.spelling.proofs.Laws.{groups_length}
use Rattle.facts.proofs.Good.{Good, GoodNumbers, goes_later, good_first}
use Rattle.facts.proofs.Passed.{unwritten_zero}
use Rattle.facts.proofs.Agree.{Alike, unwritten_agrees, range_agrees, ascends_agrees, alike_next}
use Rattle.facts.proofs.Turns.{Reads, is_read}
use Rattle.facts.proofs.Cleared.{fill_cleared}
use Rattle.roundtrip.specs.Files.{Padded}
use Rattle.model.specs.Rows as rows

-- A number in range can be spelt.
in_range_small : (l : List ℕ) (c : Field) (v : ℕ) → c.row < rows.end → in_range l c v ≡ true → v < 4294967296
in_range_small l c v h r = omega (arith, (in_row l c v r).1, greatest_below c.row h)

-- The number of l, put at c, is in its order.
order : {l : List ℕ} {c : Field} (m : List ℕ) → Valid c → Alike c l m → c.place < length m → Passed l c → ascends (set m c.place (get_or l c.place 0)) c ≡ true
order {l} {c} m f same fits p =
    let v : ℕ = get_or l c.place 0 in
    let stored : get_or (set m c.place v) c.place 0 ≡ v = get_or-set_same m c.place v 0 fits in
    let kept : Alike c l (set m c.place v) = λ k h. same k h ∙ sym (get_or-set_other m c.place k v 0 (omega (arith, h.below))) in
    sym (ascends_agrees l (set m c.place v) f kept (sym stored)) ∙ p.ascending

-- The bytes s, in which those of l from c on stand after `pre`.
module _ (s l : List ℕ) where
  reads_back : {n : ℕ} {c : Field} {b : List ℕ} (at start end : ℕ) (m pre post : List ℕ) → Valid c → Alike c l m → length m ≡ number_count →
      length pre ≡ at → s ≡ pre ++ (b ++ post) → end ≡ at + length b → Good l n c → Padded l n c b → Reads s n at start c m end (fill_from n c l m)
  unfolding fill_from
  reads_back at start end m pre post f same size long is ends good Padded.none = let q : end ≡ at = omega arith in rw q Reads.none
  reads_back {c = c} at start end m pre post f same size long is ends good (Padded.over {n} e) =
      let q : end ≡ at = omega arith in
      rw (q, fill_over n c l m e) (Reads.over e)
  reads_back {c = c} at start end m pre post f same size long is ends good (Padded.skip {n} {rest = rest} e t more) =
      let v : ℕ = get_or l c.place 0 in
      let low : c.row < rows.end = leb-false rows.end c.row e in
      let (p, later) = good_first good low in
      let fits : c.place < length m = omega (arith, (placed f low).place) in
      let none : unwritten (edition_in m) c ≡ true = sym (unwritten_agrees l m f same) ∙ t in
      let zero : v ≡ 0 = unwritten_zero l c.place refl p t in
      rw (fill_on n c l v e refl m)
      (Reads.on v at e (read_unwritten (edition_in m) c none s at ∙ ap (λ (x : ℕ). Ok (x, at)) (sym zero))
      (sym (range_agrees l m f same v) ∙ p.in_range_lem)
      (order m f same fits p)
      (reads_back at _ end (set m c.place v) pre post (goes_later l f e v p.in_range_lem).valid
      (alike_next f low v l m fits same refl)
      (length-set m c.place v ∙ size)
      long is ends later more))
  reads_back {c = c} at start end m pre post f same size long is ends good (Padded.on {n} {rest = rest} k e t enough few more) =
      let v : ℕ = get_or l c.place 0 in
      let low : c.row < rows.end = leb-false rows.end c.row e in
      let (p, later) = good_first good low in
      let fits : c.place < length m = omega (arith, (placed f low).place) in
      let some : unwritten (edition_in m) c ≡ false = sym (unwritten_agrees l m f same) ∙ t in
      let split : s ≡ pre ++ (groups k v ++ (rest ++ post)) = is ∙ rw (append_assoc (groups k v)) in
      let spelt : read_number s at ≡ Ok (v, (at + k)) = rw (split, ← long) (read_padded pre (rest ++ post) v k (in_range_small l c v low p.in_range_lem) enough few) in
      let wide : length (groups k v) ≡ k = groups_length k v in
      rw (fill_on n c l v e refl m)
      (Reads.on v (at + k) e (read_written (edition_in m) c some s at ∙ spelt)
      (sym (range_agrees l m f same v) ∙ p.in_range_lem)
      (order m f same fits p)
      (reads_back (at + k) _ end (set m c.place v) (pre ++ groups k v) post (goes_later l f e v p.in_range_lem).valid
      (alike_next f low v l m fits same refl)
      (length-set m c.place v ∙ size)
      (length-append pre (groups k v) ∙ omega arith)
      (split ∙ sym (append_assoc pre (groups k v) (rest ++ post)))
      (omega (arith, length-append (groups k v) rest))
      later more))

scan_back : (n : ℕ) (z l s : List ℕ) → length z ≡ number_count → Good l n first_field → Padded l n first_field s →
    read_from n s 0 0 first_field z ≡ scanned (Ok (length s)) (fill_from n first_field l z)
scan_back n z l s size good padded =
    let none_before : Alike first_field l z = λ k h. absurd (omega (arith, h.below)) in
    is_read (reads_back s l 0 0 (length s) z [] [] Valid.edition none_before size refl (sym (append-nil s)) (omega arith) good padded)

-- A file of good numbers is read as those numbers, with every spare place zero.
pub fields_back : (l s : List ℕ) → GoodNumbers l → Padded l number_count first_field s → read_fields s ≡ scanned (Ok (length s)) (cleared l)
fields_back l s good padded =
    scan_back number_count (replicate number_count 0) l s (length-replicate {A = ℕ} number_count 0) good padded
    ∙ ap (scanned (Ok (length s))) (fill_cleared l good)
