-- What follows a row, by what the code finds in the drawing.
use Prim.Native.Nat.{ℕ, ◌+◌, ◌≤◌, ◌<◌}
use Rattle.std.specs.Prelude.{None, Some, Option}
use mathlib.Core.Path.{◌≡◌}
use mathlib.Core.List.{List}
use borrow.Author.Tests.{lt-ltb, le-ltb, eq-eqb, ne_eqb}
use Rattle.model.specs.declared.Row.{Row}
use Rattle.model.specs.Places as places
use Rattle.model.specs.Drawings.{drawn_item, drawn_count, called_by}
use Rattle.model.specs.Inlining.{row, after}

module _ (d : List ℕ) (r caller : Row) (i : ℕ) where
  abbrev follower : Option Row
  follower = after d (called_by d r.function r.vertex) r caller i

  module _ (callee : ℕ) (is : callee ≡ drawn_item d r.function places.function places.vertex_width r.vertex) where
    pub callee_follows : (callee ≡ 255 → ⊥) → Some (row callee 0 (i + 1)) ≡ follower
    unfolding called_by
    callee_follows some = rw (← is, ne_eqb callee 255 some)

    module _ (none : callee ≡ 255) (count : ℕ) (counts : count ≡ drawn_count d r.function) where
      pub next_follows : r.vertex + 1 < count → Some (row r.function (r.vertex + 1) r.first) ≡ follower
      unfolding called_by
      next_follows h = rw (← is, eq-eqb callee 255 none, ← counts, lt-ltb (r.vertex + 1) count h)

      pub nothing_follows : count ≤ r.vertex + 1 → r.first ≡ 0 → None ≡ follower
      unfolding called_by
      nothing_follows h e = rw (← is, eq-eqb callee 255 none, ← counts, le-ltb (r.vertex + 1) count h, eq-eqb r.first 0 e)

      pub caller_follows : count ≤ r.vertex + 1 → (r.first ≡ 0 → ⊥) → Some (row caller.function (caller.vertex + 1) caller.first) ≡ follower
      unfolding called_by
      caller_follows h e = rw (← is, eq-eqb callee 255 none, ← counts, le-ltb (r.vertex + 1) count h, ne_eqb r.first 0 e)
