-- A function's fields: what the field table says of them, and that reading one goes on as the steps do.
use Prim.Native.Nat.{ℕ, suc, ◌+◌, ◌-◌, ◌<◌}
use Rattle.std.specs.Prelude.{Ok}
use mathlib.Core.Path.{◌≡◌, refl, sym, ◌∙◌}
use mathlib.Core.List.{List}
use mathlib.Core.Bool.{true}
use native.Mathlib.Omega.{arith}
use native.Mathlib.Numerals.{unary_clauses}
use lib.ListN.{set, length-set}
use borrow.Author.Tests.{ne_eqb}
use Rattle.model.specs.declared.Field.{Field}
use Rattle.model.specs.Table.{kinds, jumps, base}
use Rattle.model.specs.File.{number_count, next_field, after_item, edition_in, read_field, in_range, ascends, item_start}
use Rattle.model.proofs.Cases.{by_same}
use Rattle.editions.proofs.Fields.{field_inside}
use Rattle.fields.specs.Valid.{Placed, field}
use Rattle.fields.proofs.Steps.{placed, ranged_later}
use Rattle.fields.proofs.Laws.{first_item, no_order}
use Rattle.fields.proofs.OneField.{read_on}
use Rattle.edge_runs.specs.Edges.{Readable}
use Rattle.scan.specs.Functions.{FunctionField, Further}
use Rattle.model.specs.Rows as rows

module _ {c : Field} (f : FunctionField c) where
  pub last_next : c.row ≡ rows.check → (v : ℕ) → field rows.size (c.place + 1) (c.left - 1) ≡ next_field c v
  unfolding next_field after_item kinds jumps
  last_next e v = rw e (simp (ne_eqb c.left 0 (λ z. omega (arith, f.more))))

  pub other_next : (c.row ≡ rows.check → ⊥) → (v : ℕ) → field (c.row + 1) (c.place + 1) c.left ≡ next_field c v
  unfolding next_field kinds
  other_next n v = by_same c.row rows.size (λ e. rw e refl) (λ a. let e : c.row ≡ rows.load = omega (arith, f.low, f.high) in rw e refl)

  pub first_start : c.row ≡ rows.size → (at start : ℕ) → at ≡ item_start c at start
  unfolding item_start kinds
  first_start e at start = rw e refl

  pub other_start : (c.row ≡ rows.size → ⊥) → (at start : ℕ) → start ≡ item_start c at start
  unfolding item_start kinds
  other_start n at start = by_same c.row rows.load (λ e. rw e refl) (λ a. let e : c.row ≡ rows.check = omega (arith, f.low, f.high) in rw e refl)

  in_order_lem : (l : List ℕ) → ascends l c ≡ true
  in_order_lem l =
      by_same c.place (base c.row)
      (λ first. sym (first_item l c (base c.row) refl first))
      (λ later. sym (no_order l c (base c.row) refl later (λ e. omega (arith, f.high)) (λ e. omega (arith, f.high))))

pub next_going : {c : Field} → FunctionField c → (v : ℕ) (e : Field) → e ≡ next_field c v → e.row < rows.end
next_going {c} f v e after =
    by_same c.row rows.check
    (λ q. rw (after, ← last_next f q v) (omega arith))
    (λ n. rw (after, ← other_next f n v) (omega (arith, f.high)))

pub not_further : {s : List ℕ} {at start : ℕ} {c : Field} {l : List ℕ} → Readable s at c l → c.row < rows.end → Further s c at start l c at start l
not_further r h = record { count = 0; readable = r; going = h; behind = omega arith; same = λ n. simp unary_clauses }

module _ {s : List ℕ} {c : Field} {at start : ℕ} {l : List ℕ} {d : Field} {at' start' : ℕ} {m : List ℕ} (far : Further s c at start l d at' start' m) (f : FunctionField d) where
  pub here_placed : Placed d
  here_placed = placed far.readable.valid far.going

  module _ {v next : ℕ} (is : read_field (edition_in m) s at' d ≡ Ok (v, next)) (good : in_range m d v ≡ true) {e : Field} (after : e ≡ next_field d v) where
    pub nearer : number_count - e.place < number_count - d.place
    nearer = omega (arith, here_placed.place, (ranged_later far.readable.valid far.going m v good after).higher)

    pub one_further : {start'' : ℕ} → start'' ≡ item_start d at' start' → Further s c at start l e next start'' (set m d.place v)
    one_further starts =
        let later = ranged_later far.readable.valid far.going m v good after in
        record {
          count = far.count + 1;
          readable = record {
            inside = field_inside (edition_in m) d s at' v next is far.readable.inside;
            valid = later.valid;
            long = simp length-set far.readable.long;
          };
          going = next_going f v e after;
          behind = omega (arith, far.behind, later.higher);
          same = λ n.
              let more : n + (far.count + 1) ≡ suc n + far.count = omega arith in
              rw (more, after, starts) (far.same (suc n) ∙ read_on s at' start' d m n far.going v next is good (in_order_lem f (set m d.place v)));
        }
