-- What an accepted file's edition tells, and which edition comes back.
use Prim.Native.Nat.{ℕ, zero, suc, ◌+◌, ◌≤◌, ◌<◌}
use Rattle.std.specs.Prelude.{Ok}
use mathlib.Core.Path.{◌≡◌, refl, sym, ◌∙◌}
use mathlib.Core.List.{List, [], ◌∷◌}
use native.Mathlib.Omega.{arith}
use lib.ListN.{length, get_or}
use Rattle.model.specs.declared.Problem.{Problem}
use Rattle.model.specs.Limits.{first_edition, second_edition}
use Rattle.model.specs.Spelling.{Bytes, read_number, number_size, groups, number_bytes}
use Rattle.model.specs.Costs.{check_cost}
use Rattle.model.specs.Numbers.{edition_of, numbers_in, numbers_of}
use Rattle.model.specs.File.{number_count, first_field, edition_in, unwritten, bytes_from}
use Rattle.model.specs.Operations.{read_file}
use Rattle.model.proofs.Answers.{ok_pair}
use Rattle.model.proofs.Cases.{by_same, true_not_false}
use Rattle.spelling.proofs.RoundTrip.{read_padded}
use Rattle.numbers.proofs.Written.{edition_limits, first_unchecked, unchecked_first}
use Rattle.fields.proofs.OneField.{bytes_on}
use Rattle.fields.proofs.Editions.{other_row, bytes_written}
use Rattle.roundtrip.specs.Files.{Padded, FileOf, short_file}
use Rattle.roundtrip.proofs.Editions.{own_edition}
use Rattle.roundtrip.proofs.Trip.{accepted, edition_saved}

-- A file begins with its edition.
begins_with : (l s : List ℕ) (n : ℕ) → 0 < n → edition_in l ≤ second_edition → Padded l n first_field s → (next : ℕ) × (read_number s 0 ≡ Ok ((edition_in l), next))
unfolding unwritten
begins_with l s zero some known padded = absurd (omega arith)
begins_with l s (suc n) some known (Padded.over e) = true_not_false (sym e)
begins_with l s (suc n) some known (Padded.skip e t more) = true_not_false (sym t)
begins_with l s (suc n) some known (Padded.on {rest = rest} k e t enough few more) = (0 + k, read_padded [] rest (edition_in l) k (omega arith) enough few)

module _ (p : Problem) (s : List ℕ) (file : FileOf p s) where
  pub file_begins : (edition next : ℕ) → read_number s 0 ≡ Ok (edition, next) → file.edition ≡ edition
  file_begins edition next e =
      let own = own_edition file.edition p in
      let begins = begins_with (numbers_in file.edition p) s number_count (omega arith) (omega (arith, file.known)) file.padded in
      let same : edition_in (numbers_in file.edition p) ≡ edition = (ok_pair (sym begins.1 ∙ e)).0 in
      omega arith

-- The first byte that is written is the edition.
edition_byte : (edition : ℕ) → first_edition ≤ edition → edition ≤ second_edition → number_bytes edition ≡ edition ∷ []
unfolding number_size groups
edition_byte edition low high =
    by_same edition first_edition (λ one. rw one) (λ other. let two : edition ≡ second_edition = omega arith in rw two)

byte_from : (l : List ℕ) (n : ℕ) → 0 < n → first_edition ≤ edition_in l → edition_in l ≤ second_edition → get_or (bytes_from n first_field l) 0 0 ≡ edition_in l
byte_from l zero some low high = absurd (omega arith)
byte_from l (suc n) some low high =
    rw (
      bytes_on n first_field l (edition_in l) refl refl,
      bytes_written (edition_in l) first_field (sym (other_row (edition_in l) first_field (λ q. omega arith))) (edition_in l),
      edition_byte (edition_in l) low high,
    )

pub first_byte : (p : Problem) → get_or (short_file p) 0 0 ≡ edition_of p
first_byte p =
    let own = own_edition (edition_of p) p in
    let limits = edition_limits p in
    byte_from (numbers_of p) number_count (omega arith) (omega arith) (omega arith) ∙ own

-- A file s that Read accepts as p, where it begins with its edition.
module _ (s : List ℕ) (byte : Bytes s) (p : Problem) (is_read : read_file s ≡ Ok p) (next : ℕ) where
  -- A file of edition 1 has no check cost.
  pub first_edition_read : read_number s 0 ≡ Ok (first_edition, next) → (f : ℕ) → check_cost p f ≡ 0
  first_edition_read e =
      let file = (accepted s byte p is_read).file in
      first_unchecked p (omega (arith, file_begins p s file first_edition next e, file.enough, edition_limits p))

  -- A file of edition 2 without a check cost comes back as one of edition 1, shorter by a byte a function at least.
  pub second_edition_read : read_number s 0 ≡ Ok (second_edition, next) → ((f : ℕ) → check_cost p f ≡ 0) →
      (get_or (short_file p) 0 0 ≡ first_edition) × (length (short_file p) + p.function_count ≤ length s)
  second_edition_read e none =
      let ok = accepted s byte p is_read in
      let one = unchecked_first p none in (
        first_byte p ∙ one,
        edition_saved p ok.sized (length (short_file p)) ok.checked s ok.file (omega (arith, file_begins p s ok.file second_edition next e)),
      )
