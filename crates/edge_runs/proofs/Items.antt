-- Items of two numbers: one is read by the steps of both its numbers, and runs of them behind one another are one run.
use Prim.Native.Nat.{ℕ, zero, suc, ◌+◌, ◌*◌, ◌-◌, ◌≤◌, ◌<◌}
use mathlib.Core.Path.{◌≡◌, refl, subst, ◌∙◌}
use mathlib.Core.List.{List}
use native.Mathlib.Omega.{arith}
use native.Mathlib.Numerals.{unary_clauses}
use lib.ListN.{length}
use Rattle.model.specs.declared.Field.{Field}
use Rattle.model.specs.Table.{kind, first_kind}
use Rattle.model.specs.File.{number_count, item_start, read_from}
use Rattle.fields.specs.Valid.{Valid, field}
use Rattle.edge_runs.specs.Edges.{past_pairs, Readable, PairsRead, ItemTaken}
use Rattle.model.specs.Places as places

-- Where an item starts, the start of the item before plays no part.
start_free : (n : ℕ) (s : List ℕ) (at start start' : ℕ) (c : Field) (l : List ℕ) → kind c.row ≡ first_kind → read_from n s at start c l ≡ read_from n s at start' c l
unfolding read_from item_start
start_free zero s at start start' c l e = refl
start_free (suc n) s at start start' c l e = simp e

-- An item of two numbers is read by the steps of both, where others of its list follow.
pub item_read : {s : List ℕ} {at : ℕ} {c : Field} {l m : List ℕ} {end : ℕ} → 0 < c.left → end ≤ length s → length m ≡ number_count → kind c.row ≡ first_kind →
    Valid (field c.row (c.place + 1 + 1) (c.left - 1)) →
    ((n start : ℕ) → read_from (suc (suc n)) s at start c l ≡ read_from n s end at (field c.row (c.place + 1 + 1) (c.left - 1)) m) → PairsRead s at c l m 1 end
item_read {s} {at} {c} {l} {m} {end} more inside long first valid two_read =
    let place : c.place + places.edge_width * 1 ≡ c.place + 1 + 1 = omega arith in
    record {
      few = more;
      inside = inside;
      valid = rw place valid;
      long = long;
      same = λ n start.
          let two : n + places.edge_width * 1 ≡ suc (suc n) = omega arith in
          rw (two, place) (two_read n start ∙ start_free n s end at start (field c.row (c.place + 1 + 1) (c.left - 1)) m first);
    }

-- No item is read.
pub none_read : {s : List ℕ} {at : ℕ} {c : Field} {l : List ℕ} → Readable s at c l → PairsRead s at c l l 0 at
none_read r = record { few = omega arith; inside = r.inside; valid = simp unary_clauses r.valid; long = r.long; same = λ n start. simp unary_clauses }

-- A run, and another behind it.
pub two_runs : {s : List ℕ} {at : ℕ} {c : Field} {l m w : List ℕ} {k pos j end : ℕ} → PairsRead s at c l m k pos → PairsRead s pos (past_pairs c k) m w j end →
    PairsRead s at c l w (k + j) end
two_runs {c = c} {k = k} {j = j} run more =
    let place : c.place + places.edge_width * (k + j) ≡ c.place + places.edge_width * k + places.edge_width * j = omega arith in
    let left : c.left - (k + j) ≡ c.left - k - j = omega arith in
    record {
      few = omega (arith, more.few, run.few);
      inside = more.inside;
      valid = rw (place, left) more.valid;
      long = more.long;
      same = λ n start.
          let count : n + places.edge_width * (k + j) ≡ n + places.edge_width * j + places.edge_width * k = omega arith in
          rw (count, place, left) (run.same (n + places.edge_width * j) start ∙ more.same n start);
    }

-- The items that a list has are all that a run may have.
pub all_read : {s : List ℕ} {at : ℕ} {c : Field} {l m : List ℕ} {k end : ℕ} → PairsRead s at c l m k end → c.left ≤ k → PairsRead s at c l m c.left end
all_read {s} {at} {c} {l} {m} {k} {end} run done = let all : k ≡ c.left = omega (arith, run.few) in subst (λ (n : ℕ). PairsRead s at c l m n end) all run

-- What reading one item answers: nothing is read, or the item ends behind its first byte.
pub none_taken : {s : List ℕ} {at : ℕ} {c : Field} {l : List ℕ} → ItemTaken s at c l l 0
none_taken = record { left = λ e. refl; taken = λ h. let z : ⊥ = omega (arith, h) in elim z [ ] }

pub one_taken : {s : List ℕ} {at : ℕ} {c : Field} {l m : List ℕ} {end : ℕ} → 0 < end → PairsRead s at c l m 1 end → ItemTaken s at c l m end
one_taken far item = record { left = λ e. let z : ⊥ = omega (arith, far, e) in elim z [ ]; taken = λ h. item }
