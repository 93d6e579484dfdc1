-- The loop that writes numbers that are judged good: the bytes still to be written complete the file, and what is left to judge is what was to be judged from
-- the first field.
use Prim.Native.Nat.{ℕ, zero, suc, ◌+◌, ◌-◌, ◌≤◌, ◌<◌}
use Rattle.std.specs.Prelude.{Ok}
use mathlib.Core.Path.{◌≡◌, refl, sym, ap, ◌∙◌}
use mathlib.Core.List.{List, ◌++◌}
use native.Mathlib.Omega.{arith}
use lib.ListN.{length, get_or}
use lib.Seq.{sets, length-sets}
use borrow.Author.Tests.{le-leb, lt-leb}
use Rattle.model.specs.declared.Field.{Field}
use Rattle.model.specs.File.{number_count, first_field, next_field, edition_in, field_size, field_bytes, item_start, check_from, check_fields, bytes_from, file_bytes}
use Rattle.model.proofs.Cases.{by_order}
use Rattle.model.proofs.Lists.{sets-append}
use Rattle.editions.proofs.Fields.{field_length}
use Rattle.fields.proofs.Steps.{Later, ranged_later}
use Rattle.fields.proofs.OneField.{Passed, checked, check_done, bytes_over, bytes_on}
use Rattle.writing.specs.Fits.{Fits}
use Rattle.edge_runs.proofs.Going.{Reached, reached_first, to_come, reached_next}
use Rattle.model.specs.Rows as rows

-- The position only grows.
check_grows : (n at start : ℕ) (c : Field) (l : List ℕ) (end : ℕ) → check_from n at start c l ≡ Ok end → at ≤ end
unfolding check_from
check_grows zero at start c l end e = let q : Ok at ≡ Ok end = e in let p : at ≡ end = cc in omega arith
check_grows (suc n) at start c l end e =
    by_order c.row rows.end
    (λ h. let next = check_grows n (at + field_size (edition_in l) c (get_or l c.place 0)) (item_start c at start) (next_field c (get_or l c.place 0)) l end (checked l n at start end c h e).1 in omega arith)
    (λ h. let q : Ok at ≡ Ok end = sym (check_done l at start c (suc n) h) ∙ e in let p : at ≡ end = cc in omega arith)

pub record Writing (buf₀ numbers buf : List ℕ) (field : Field) (at : ℕ) : Type 0 where
  pub start : ℕ
  pub count : ℕ
  pub reached : Reached field count
  pub same : check_from (number_count - count) at start field numbers ≡ check_fields numbers
  pub long : length buf ≡ length buf₀
  pub bytes : sets buf at (bytes_from (number_count - count) field numbers) ≡ sets buf₀ 0 (file_bytes numbers)

pub write_first : (buf numbers : List ℕ) {field : Field} → field ≡ first_field → Writing buf numbers buf field 0
write_first buf numbers e = rw e (record { start = 0; count = 0; reached = reached_first; same = refl; long = refl; bytes = refl })

module _ {buf₀ numbers buf : List ℕ} {field : Field} {at : ℕ} (w : Writing buf₀ numbers buf field at) where
  abbrev here : ℕ
  here = get_or numbers field.place 0

  bytes_done : (n : ℕ) → rows.end ≤ field.row → sets buf at (bytes_from n field numbers) ≡ buf
  unfolding bytes_from
  bytes_done zero h = refl
  bytes_done (suc n) h = rw (bytes_over n field numbers (le-leb rows.end field.row h))

  pub write_all : rows.end ≤ field.row → (Ok at ≡ check_fields numbers) × (buf ≡ sets buf₀ 0 (file_bytes numbers))
  write_all h = (sym (check_done numbers at w.start field _ h) ∙ w.same, sym (bytes_done _ h) ∙ w.bytes)

  module _ (fits : Fits numbers buf₀) (h : field.row < rows.end) where
    to_write : ℕ
    to_write = number_count - (w.count + 1)

    -- The number is good, and so is what follows it.
    good : Passed numbers field × (check_from to_write (at + field_size (edition_in numbers) field here) (item_start field at w.start) (next_field field here) numbers ≡ Ok fits.need)
    unfolding to_write
    good =
        checked numbers to_write at w.start fits.need field h
        (ap (λ (n : ℕ). check_from n at w.start field numbers) (sym (to_come w.reached h)) ∙ w.same ∙ fits.checked)

    pub write_room : at + field_size (edition_in numbers) field here ≤ length buf
    write_room = omega (arith, check_grows to_write _ _ _ numbers fits.need good.1, fits.room, w.long)

    pub write_later : {d : Field} → d ≡ next_field field here → Later field d
    write_later q = ranged_later w.reached.valid h numbers here good.0.in_range_lem q

    rest : sets (sets buf at (field_bytes (edition_in numbers) field here)) (at + field_size (edition_in numbers) field here) (bytes_from to_write (next_field field here) numbers) ≡ sets buf₀ 0 (file_bytes numbers)
    unfolding to_write
    rest =
        let bytes : List ℕ = field_bytes (edition_in numbers) field here in
        let behind : List ℕ = bytes_from to_write (next_field field here) numbers in
        let split : sets buf at (bytes ++ behind) ≡ sets buf₀ 0 (file_bytes numbers) =
        rw (to_come w.reached h, bytes_on to_write field numbers here (lt-leb rows.end field.row h) refl) at w.bytes in
        ap (λ (m : ℕ). sets (sets buf at bytes) (at + m) behind) (sym (field_length (edition_in numbers) field here)) ∙ sym (sets-append bytes behind buf at) ∙ split

    pub write_next : {d : Field} → d ≡ next_field field here → {at' : ℕ} → at' ≡ at + field_size (edition_in numbers) field here → {next : List ℕ} → next ≡ sets buf at (field_bytes (edition_in numbers) field here) →
        Writing buf₀ numbers next d at'
    unfolding to_write
    write_next q moved stored =
        record {
          start = item_start field at w.start;
          count = w.count + 1;
          reached = reached_next w.reached h (write_later q);
          same = rw (q, moved) (good.1 ∙ sym fits.checked);
          long = ap length stored ∙ simp length-sets w.long;
          bytes = rw (stored, q, moved) rest;
        }
