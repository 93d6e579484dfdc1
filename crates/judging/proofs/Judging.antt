-- The loop that judges: what is left to judge from the present field is what was to be judged from the first, and no more than five bytes a number are counted.
use Prim.Native.Nat.{ℕ, suc, ◌+◌, ◌*◌, ◌-◌, ◌≤◌, ◌<◌}
use Rattle.std.specs.Prelude.{Err, Ok}
use mathlib.Core.Path.{◌≡◌, refl, sym, ap, ◌∙◌}
use mathlib.Core.List.{List}
use mathlib.Core.Bool.{true, false}
use native.Mathlib.Omega.{arith}
use lib.ListN.{get_or}
use Rattle.model.specs.declared.Field.{Field}
use Rattle.model.specs.declared.Refusal.TheVariants as refusal
use Rattle.model.specs.File.{number_count, first_field, next_field, edition_in, field_size, in_range, ascends, item_start, check_from, check_fields}
use Rattle.editions.proofs.Fields.{field_five}
use Rattle.fields.proofs.Steps.{placed, ranged_later}
use Rattle.fields.proofs.OneField.{check_done, check_out, check_disorder, check_on}
use Rattle.edge_runs.specs.Edges.{past_pairs, EdgesChecked}
use Rattle.edge_runs.proofs.Going.{Reached, reached_first, to_come, reached_next, reached_past, past_to_come}
use Rattle.model.specs.Places as places
use Rattle.model.specs.Rows as rows

pub record Judging (numbers : List ℕ) (field : Field) (at start : ℕ) : Type 0 where
  pub count : ℕ
  pub near : at ≤ 5 * count
  pub reached : Reached field count
  pub same : check_from (number_count - count) at start field numbers ≡ check_fields numbers

pub judge_first : (numbers : List ℕ) {field : Field} → field ≡ first_field → Judging numbers field 0 0
judge_first numbers e = rw e (record { count = 0; near = omega arith; reached = reached_first; same = refl })

module _ {numbers : List ℕ} {field : Field} {at start : ℕ} (r : Judging numbers field at start) where
  abbrev here : ℕ
  here = get_or numbers field.place 0

  pub judge_all : rows.end ≤ field.row → Ok at ≡ check_fields numbers
  judge_all h = sym (check_done numbers at start field _ h) ∙ r.same

  module _ (h : field.row < rows.end) where
    pub judge_near : at + 5 ≤ 5 * number_count
    judge_near = omega (arith, r.near, r.reached.behind, (placed r.reached.valid h).place)

    pub judge_room_lem : {size : ℕ} → size ≡ field_size (edition_in numbers) field here → at + size ≤ 5 * number_count
    judge_room_lem e = omega (arith, judge_near, field_five (edition_in numbers) field here)

    -- Behind a run of edges the judging goes on.
    pub judge_past : {k : ℕ} → EdgesChecked field numbers k → {d : Field} → d ≡ past_pairs field k → Judging numbers d (at + places.edge_width * k) start
    judge_past {k} e q =
        rw q (record {
          count = r.count + places.edge_width * k;
          near = omega (arith, r.near);
          reached = reached_past r.reached h k e.valid;
          same =
              sym (e.same (number_count - (r.count + places.edge_width * k)) at start)
              ∙ ap (λ (n : ℕ). check_from n at start field numbers) (past_to_come r.reached h k e.valid)
              ∙ r.same;
        })

    turn : check_from (suc (number_count - (r.count + 1))) at start field numbers ≡ check_fields numbers
    turn = ap (λ (n : ℕ). check_from n at start field numbers) (sym (to_come r.reached h)) ∙ r.same

    pub judge_too_far : in_range numbers field here ≡ false → Err (refusal.OutOfRange at) ≡ check_fields numbers
    judge_too_far f = sym (check_out numbers at start field _ h f) ∙ turn

    module _ (f : in_range numbers field here ≡ true) where
      module _ {start' : ℕ} (starts : start' ≡ item_start field at start) where
        pub judge_unordered : ascends numbers field ≡ false → Err (refusal.NotAscending start') ≡ check_fields numbers
        judge_unordered g = rw starts (sym (check_disorder numbers at start field _ h f g) ∙ turn)

        pub judge_next : ascends numbers field ≡ true → {d : Field} → d ≡ next_field field here → {size : ℕ} → size ≡ field_size (edition_in numbers) field here → Judging numbers d (at + size) start'
        judge_next g q z =
            record {
              count = r.count + 1;
              near = omega (arith, r.near, field_five (edition_in numbers) field here);
              reached = reached_next r.reached h (ranged_later r.reached.valid h numbers here f q);
              same = rw (q, z, starts) (sym (check_on numbers at start field _ h (record { in_range_lem = f; ascending = g })) ∙ turn);
            }
