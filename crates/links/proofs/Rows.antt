-- Which edges a row has: one to its copy, those of its vertex, none, or those of its call vertex.
use Prim.Native.Nat.{ℕ, ◌+◌, ◌-◌, ◌≤◌, ◌<◌}
use mathlib.Core.Path.{◌≡◌, ap, ◌∙◌}
use mathlib.Core.List.{List, [], ◌∷◌}
use borrow.Author.Tests.{eq-eqb, ne_eqb, lt-ltb, le-ltb}
use Rattle.std.specs.Prelude.{Some, None}
use Rattle.model.specs.declared.Edge.{Edge}
use Rattle.model.specs.declared.Row.{Row}
use Rattle.model.specs.Places as places
use Rattle.model.specs.Drawings.{drawn_count, drawn_item, called_by}
use Rattle.model.specs.Inlining.{row_at, leaving, out_of, edges_from}
use Rattle.links.specs.Put.{edge}

module _ (d : List ℕ) (r : Row) where
  abbrev called : ℕ
  called = drawn_item d r.function places.function places.vertex_width r.vertex

  calls_one : (called ≡ 255 → ⊥) → called_by d r.function r.vertex ≡ Some called
  unfolding called_by
  calls_one h = rw (ne_eqb called 255 h)

  calls_none : called ≡ 255 → called_by d r.function r.vertex ≡ None
  unfolding called_by
  calls_none h = rw (eq-eqb called 255 h)

  module _ (rows : List Row) (i : ℕ) where
    abbrev pub row_edges : List Edge
    row_edges = edges_from d rows (called_by d r.function r.vertex) i r

    pub calls : (called ≡ 255 → ⊥) → row_edges ≡ edge i (i + 1) ∷ []
    calls h = rw (calls_one h)

    module _ (quiet : called ≡ 255) where
      calm : row_edges ≡ out_of d rows i r
      calm = rw (calls_none quiet)

      pub inside : r.vertex + 1 < drawn_count d r.function → row_edges ≡ leaving d rows i r
      inside h = calm ∙ (rw (lt-ltb (r.vertex + 1) (drawn_count d r.function) h))

      module _ (last : drawn_count d r.function ≤ r.vertex + 1) where
        pub ends : r.first ≡ 0 → row_edges ≡ []
        ends h = calm ∙ (rw (le-ltb (r.vertex + 1) (drawn_count d r.function) last, eq-eqb r.first 0 h))

        pub goes_on : (r.first ≡ 0 → ⊥) → (caller : Row) → row_at rows (r.first - 1) ≡ caller → row_edges ≡ leaving d rows i caller
        goes_on h caller is =
            calm
            ∙ (rw (le-ltb (r.vertex + 1) (drawn_count d r.function) last, ne_eqb r.first 0 h))
            ∙ ap (leaving d rows i) is
