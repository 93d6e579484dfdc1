-- The loop that reads: what is left to read from the present field is what was to be read from the first.
use Prim.Native.Nat.{ℕ, suc, ◌+◌, ◌*◌, ◌-◌, ◌≤◌, ◌<◌}
use Rattle.std.specs.Prelude.{Err, Ok, Result}
use Rattle.model.specs.declared.Refusal.{Refusal}
use Rattle.model.specs.declared.Misread.{Misread}
use Rattle.model.specs.declared.Misread.TheVariants.{Ended, Misspelt}
use mathlib.Core.Path.{◌≡◌, refl, sym, ap, ◌∙◌}
use mathlib.Core.List.{List, [], ◌∷◌}
use mathlib.Core.Bool.{true, false}
use native.Mathlib.Omega.{arith}
use lib.ListN.{length, set, length-set}
use Rattle.model.specs.declared.Field.{Field}
use Rattle.model.specs.declared.Refusal.TheVariants as refusal
use Rattle.model.specs.File.{number_count, first_field, next_field, edition_in, read_field, in_range, ascends, item_start, Scan, scanned, read_from}
use Rattle.editions.proofs.Fields.{field_inside}
use Rattle.fields.proofs.Steps.{placed, ranged_later}
use Rattle.fields.proofs.OneField.{read_done, read_ended, read_misspelt, read_out, read_disorder, read_on}
use Rattle.edge_runs.specs.Edges.{past_pairs, PairsRead}
use Rattle.scan.specs.Answers.{misread, or_refused}
use Rattle.scan.specs.Functions.{Further}
use Rattle.edge_runs.proofs.Going.{Reached, reached_first, to_come, reached_next, reached_past, past_to_come}
use Rattle.model.specs.Places as places
use Rattle.model.specs.Rows as rows

pub record Reading (bytes numbers₀ numbers : List ℕ) (field : Field) (at start : ℕ) : Type 0 where
  pub count : ℕ
  pub long : length numbers ≡ number_count
  pub within : at ≤ length bytes
  pub reached : Reached field count
  pub same : read_from (number_count - count) bytes at start field numbers ≡ read_from number_count bytes 0 0 first_field numbers₀

pub read_first : (bytes : List ℕ) {numbers : List ℕ} → length numbers ≡ number_count → {field : Field} → field ≡ first_field → Reading bytes numbers numbers field 0 0
read_first bytes long e = rw e (record { count = 0; long = long; within = omega arith; reached = reached_first; same = refl })

module _ {bytes numbers₀ numbers : List ℕ} {field : Field} {at start : ℕ} (r : Reading bytes numbers₀ numbers field at start) where
  abbrev whole : Scan
  whole = read_from number_count bytes 0 0 first_field numbers₀

  pub read_all : rows.end ≤ field.row → scanned (Ok at) numbers ≡ whole
  read_all h = sym (read_done bytes at start field numbers _ h) ∙ r.same

  module _ (h : field.row < rows.end) where
    -- Behind a run the reading goes on.
    pub read_past : {m : List ℕ} {k end : ℕ} → PairsRead bytes at field numbers m k end → {d : Field} → d ≡ past_pairs field k → Reading bytes numbers₀ m d end start
    read_past {m} {k} e q =
        rw q (record {
          count = r.count + places.edge_width * k;
          long = e.long;
          within = e.inside;
          reached = reached_past r.reached h k e.valid;
          same =
              sym (e.same (number_count - (r.count + places.edge_width * k)) start)
              ∙ ap (λ (n : ℕ). read_from n bytes at start field numbers) (past_to_come r.reached h k e.valid)
              ∙ r.same;
        })

    -- Behind functions too.
    pub read_further : {d : Field} {at' start' : ℕ} {m : List ℕ} → Further bytes field at start numbers d at' start' m → Reading bytes numbers₀ m d at' start'
    read_further far =
        let there = (placed far.readable.valid far.going).place in
        let left : number_count - (r.count + far.count) + far.count ≡ number_count - r.count = omega (arith, r.reached.behind, far.behind) in
        record {
          count = r.count + far.count;
          long = far.readable.long;
          within = far.readable.inside;
          reached = record { valid = far.readable.valid; behind = omega (arith, r.reached.behind, far.behind) };
          same = sym (far.same (number_count - (r.count + far.count))) ∙ ap (λ (n : ℕ). read_from n bytes at start field numbers) left ∙ r.same;
        }

    turn : read_from (suc (number_count - (r.count + 1))) bytes at start field numbers ≡ whole
    turn = ap (λ (n : ℕ). read_from n bytes at start field numbers) (sym (to_come r.reached h)) ∙ r.same

    read_refused : (m : Misread) → read_field (edition_in numbers) bytes at field ≡ Err m → {f : Refusal} → f ≡ misread m (length bytes) at →
        scanned (Err f) numbers ≡ whole
    unfolding misread
    read_refused Ended is e = ap (λ (f : Refusal). scanned (Err f) numbers) e ∙ sym (read_ended bytes at start field numbers _ h is) ∙ turn
    read_refused Misspelt is e = ap (λ (f : Refusal). scanned (Err f) numbers) e ∙ sym (read_misspelt bytes at start field numbers _ h is) ∙ turn

    -- A number that was read is no refusal, and a refusal is no number.
    pub read_there : {v next : ℕ} (r : Result (ℕ × ℕ) Misread) → Ok (v, next) ≡ or_refused r (length bytes) at → r ≡ Ok (v, next)
    read_there (Ok (w, behind)) e = sym (ok_alike e)
      where
        ok_alike : {p q : ℕ × ℕ} → ◌≡◌ {A = Result (ℕ × ℕ) Refusal} (Ok p) (Ok q) → ◌≡◌ {A = Result (ℕ × ℕ) Misread} (Ok p) (Ok q)
        ok_alike e = cc
    read_there (Err why) e = let z : ◌≡◌ {A = ℕ} 0 1 = cc in absurd (omega arith)

    pub not_read : {f : Refusal} (r : Result (ℕ × ℕ) Misread) → Err f ≡ or_refused r (length bytes) at → r ≡ read_field (edition_in numbers) bytes at field →
        scanned (Err f) numbers ≡ whole
    not_read (Ok read) e is = let z : ◌≡◌ {A = ℕ} 0 1 = cc in absurd (omega arith)
    not_read (Err why) e is = read_refused why (sym is) (cc)

    module _ {v next : ℕ} (is : read_field (edition_in numbers) bytes at field ≡ Ok (v, next)) where
      pub read_too_far : in_range numbers field v ≡ false → scanned (Err (refusal.OutOfRange at)) numbers ≡ whole
      read_too_far f = sym (read_out bytes at start field numbers _ h v next is f) ∙ turn

      module _ (f : in_range numbers field v ≡ true) where
        module _ {start' : ℕ} (starts : start' ≡ item_start field at start) where
          pub read_unordered : ascends (set numbers field.place v) field ≡ false → scanned (Err (refusal.NotAscending start')) (set numbers field.place v) ≡ whole
          read_unordered g = rw starts (sym (read_disorder bytes at start field numbers _ h v next is f g) ∙ turn)

          pub read_next : ascends (set numbers field.place v) field ≡ true → {d : Field} → d ≡ next_field field v → Reading bytes numbers₀ (set numbers field.place v) d next start'
          read_next g q =
              record {
                count = r.count + 1;
                long = simp length-set r.long;
                within = field_inside _ _ _ _ _ _ is r.within;
                reached = reached_next r.reached h (ranged_later r.reached.valid h numbers v f q);
                same = rw (q, starts) (sym (read_on bytes at start field numbers _ h v next is f g) ∙ turn);
              }
