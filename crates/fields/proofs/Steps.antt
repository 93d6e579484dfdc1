-- Going from field to field: the next field of a valid one is valid, and its place is higher.
use Prim.Native.Nat.{ℕ, ◌+◌, ◌-◌, ◌≤◌, ◌<◌}
use mathlib.Core.Path.{◌≡◌, refl}
use mathlib.Core.List.{List}
use mathlib.Core.Bool.{true}
use native.Mathlib.Omega.{arith}
use lib.Dec.{eqb, leb}
use borrow.Author.Tests.{eqb-true, eqb-false, leb-true}
use Rattle.model.specs.declared.Field.{Field}
use Rattle.model.specs.Table.{limits, bases, kinds, jumps, least, greatest, jump}
use Rattle.model.specs.File.{row_start, after_count, after_item, next_field, in_range}
use Rattle.model.proofs.Cases.{by_cond, and_left, and_right}
use Rattle.fields.specs.Valid.{Placed, Valid, field, edition, scratchpad, functions, size, load, check, vertices, function, cost, edges, from, to, loops, header, last, bound, end}
use Rattle.model.specs.Rows as rows

-- A valid field at an equal place, with as many items left.
at : {row place place' left left' : ℕ} → Valid (field row place left) → place ≡ place' → left ≡ left' → Valid (field row place' left')
at {row} {place} {place'} {left} {left'} f p q = rw (← p, ← q) f

pub placed : {c : Field} → Valid c → c.row < rows.end → Placed c
unfolding bases
placed edition h = record { row = h; place = omega arith; above = omega arith }
placed scratchpad h = record { row = h; place = omega arith; above = omega arith }
placed functions h = record { row = h; place = omega arith; above = omega arith }
placed (size i left f) h = record { row = h; place = omega arith; above = omega arith }
placed (load i left f) h = record { row = h; place = omega arith; above = omega arith }
placed (check i left f) h = record { row = h; place = omega arith; above = omega arith }
placed vertices h = record { row = h; place = omega arith; above = omega arith }
placed (function i left f) h = record { row = h; place = omega arith; above = omega arith }
placed (cost i left f) h = record { row = h; place = omega arith; above = omega arith }
placed edges h = record { row = h; place = omega arith; above = omega arith }
placed (from i left f) h = record { row = h; place = omega arith; above = omega arith }
placed (to i left f) h = record { row = h; place = omega arith; above = omega arith }
placed loops h = record { row = h; place = omega arith; above = omega arith }
placed (header i left f) h = record { row = h; place = omega arith; above = omega arith }
placed (last i left f) h = record { row = h; place = omega arith; above = omega arith }
placed (bound i left f) h = record { row = h; place = omega arith; above = omega arith }
placed end h = let z : ⊥ = omega arith in elim z [ ]

-- What holds of the field after a count, or after an item's last number, follows from the two that it may be.
module _ (P : Field → Type 0) (c : Field) where
  pub after_count_lem : (v : ℕ) → (v ≡ 0 → P (row_start (jump c.row))) → (0 < v → P (field (c.row + 1) (c.place + 1) (v - 1))) → P (after_count c v)
  unfolding after_count
  after_count_lem v none some = by_cond P (eqb v 0) (λ e. none (eqb-true v 0 e)) (λ e. some (omega (arith, eqb-false v 0 e)))

  pub after_item_lem : (c.left ≡ 0 → P (row_start (c.row + 1))) → (0 < c.left → P (field (jump c.row) (c.place + 1) (c.left - 1))) → P (after_item c)
  unfolding after_item
  after_item_lem none some =
      by_cond P (eqb c.left 0) (λ e. none (eqb-true c.left 0 e)) (λ e. some (omega (arith, eqb-false c.left 0 e)))

-- d comes after c in the file.
pub record Later (c d : Field) : Type 0 where
  pub valid : Valid d
  pub higher : c.place < d.place

pub next_later : {c : Field} → Valid c → (v : ℕ) → c.row < rows.end → v ≤ greatest c.row → Later c (next_field c v)
unfolding next_field limits bases kinds jumps
next_later edition v h g = record { valid = scratchpad; higher = omega arith }
next_later scratchpad v h g = record { valid = functions; higher = omega arith }
next_later functions v h g =
    after_count_lem (Later _) _ v (λ e. record { valid = vertices; higher = omega arith }) (λ k. record { valid = at (size 0 (v - 1) (omega arith)) refl refl; higher = omega arith })
next_later (size i left f) v h g = record { valid = at (load i left f) (omega arith) refl; higher = omega arith }
next_later (load i left f) v h g = record { valid = at (check i left f) (omega arith) refl; higher = omega arith }
next_later (check i left f) v h g =
    after_item_lem (Later _) _ (λ e. record { valid = vertices; higher = omega arith }) (λ k. record { valid = at (size (i + 1) (left - 1) (omega arith)) (omega arith) refl; higher = omega arith })
next_later vertices v h g =
    after_count_lem (Later _) _ v (λ e. record { valid = edges; higher = omega arith }) (λ k. record { valid = at (function 0 (v - 1) (omega arith)) refl refl; higher = omega arith })
next_later (function i left f) v h g = record { valid = at (cost i left f) (omega arith) refl; higher = omega arith }
next_later (cost i left f) v h g =
    after_item_lem (Later _) _ (λ e. record { valid = edges; higher = omega arith }) (λ k. record { valid = at (function (i + 1) (left - 1) (omega arith)) (omega arith) refl; higher = omega arith })
next_later edges v h g =
    after_count_lem (Later _) _ v (λ e. record { valid = loops; higher = omega arith }) (λ k. record { valid = at (from 0 (v - 1) (omega arith)) refl refl; higher = omega arith })
next_later (from i left f) v h g = record { valid = at (to i left f) (omega arith) refl; higher = omega arith }
next_later (to i left f) v h g =
    after_item_lem (Later _) _ (λ e. record { valid = loops; higher = omega arith }) (λ k. record { valid = at (from (i + 1) (left - 1) (omega arith)) (omega arith) refl; higher = omega arith })
next_later loops v h g =
    after_count_lem (Later _) _ v (λ e. record { valid = end; higher = omega arith }) (λ k. record { valid = at (header 0 (v - 1) (omega arith)) refl refl; higher = omega arith })
next_later (header i left f) v h g = record { valid = at (last i left f) (omega arith) refl; higher = omega arith }
next_later (last i left f) v h g = record { valid = at (bound i left f) (omega arith) refl; higher = omega arith }
next_later (bound i left f) v h g =
    after_item_lem (Later _) _ (λ e. record { valid = end; higher = omega arith }) (λ k. record { valid = at (header (i + 1) (left - 1) (omega arith)) (omega arith) refl; higher = omega arith })
next_later end v h g = let z : ⊥ = omega arith in elim z [ ]

-- A number in range is within its row.
pub in_row : (l : List ℕ) (c : Field) (v : ℕ) → in_range l c v ≡ true → (least c.row ≤ v) × (v ≤ greatest c.row)
unfolding in_range
in_row l c v e =
    let low = and_left (leb (least c.row) v) _ e in
    let rest = and_right (leb (least c.row) v) _ e in
    (leb-true (least c.row) v low, leb-true v (greatest c.row) (and_left (leb v (greatest c.row)) _ rest))

-- The field after a number in range comes later.
pub ranged_later : {c d : Field} → Valid c → c.row < rows.end → (l : List ℕ) (v : ℕ) → in_range l c v ≡ true → d ≡ next_field c v → Later c d
ranged_later {c} valid h l v e q = rw q (next_later valid v h (in_row l c v e).1)
