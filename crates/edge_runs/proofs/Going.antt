-- Going from field to field: places rise, so that the numbers still to come run out.
use Prim.Native.Nat.{ℕ, suc, ◌+◌, ◌*◌, ◌-◌, ◌≤◌, ◌<◌}
use mathlib.Core.Path.{◌≡◌}
use native.Mathlib.Omega.{arith}
use Rattle.model.specs.declared.Field.{Field}
use Rattle.model.specs.File.{number_count, first_field}
use Rattle.model.proofs.Cases.{left_of_lem}
use Rattle.fields.specs.Valid.{Valid, edition}
use Rattle.fields.proofs.Steps.{Later, placed}
use Rattle.edge_runs.specs.Edges.{past_pairs}
use Rattle.model.specs.Places as places
use Rattle.model.specs.Rows as rows

-- At most `count` numbers stand before a valid field.
pub record Reached (c : Field) (count : ℕ) : Type 0 where
  pub valid : Valid c
  pub behind : count ≤ c.place

pub reached_first : Reached first_field 0
reached_first = record { valid = edition; behind = omega arith }

module _ {c : Field} {count : ℕ} (here : Reached c count) (h : c.row < rows.end) where
  pub to_come : number_count - count ≡ suc (number_count - (count + 1))
  to_come = left_of_lem count number_count (omega (arith, (placed here.valid h).place))

  module _ {d : Field} (next : Later c d) where
    pub reached_next : Reached d (count + 1)
    reached_next = record { valid = next.valid; behind = omega (arith, next.higher) }

  -- Behind a run of k edges.
  module _ (k : ℕ) (valid : Valid (past_pairs c k)) where
    pub reached_past : Reached (past_pairs c k) (count + places.edge_width * k)
    reached_past = record { valid = valid; behind = omega (arith, here.behind) }

    pub past_to_come : number_count - (count + places.edge_width * k) + places.edge_width * k ≡ number_count - count
    past_to_come = omega (arith, here.behind, (placed valid h).place)

pub nearer : {c d : Field} → Valid c → c.row < rows.end → Later c d → number_count - d.place < number_count - c.place
nearer valid h next = omega (arith, (placed valid h).place, next.higher)

-- The field behind a run.
module _ (c : Field) (k : ℕ) {d : Field} (is : d ≡ past_pairs c k) where
  pub past_row : c.row < rows.end → d.row < rows.end
  past_row h = rw is h

  past_place : c.place ≤ d.place
  past_place = rw is (omega arith)

  pub past_nearer : {e : Field} → Valid d → d.row < rows.end → Later d e → number_count - e.place < number_count - c.place
  past_nearer valid h next = omega (arith, past_place, nearer valid h next)
