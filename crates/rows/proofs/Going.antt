-- What the loop that makes the rows knows: the rows so far are the first of the drawing's.
use Prim.Native.Nat.{ℕ, ◌+◌, ◌-◌, ◌≤◌, ◌<◌}
use Rattle.std.specs.Prelude.{None, Some, Option}
use mathlib.Core.Path.{◌≡◌, refl, sym, ap, subst, ◌∙◌}
use mathlib.Core.List.{List}
use native.Mathlib.Omega.{arith}
use native.Mathlib.Numerals.{add-one}
use lib.ListN.{length, take, set, replicate, length-set, length-replicate}
use lib.Seq.{length-take-le, get_or-take, take-suc-set}
use Rattle.model.specs.declared.Row.{Row}
use Rattle.model.specs.Places as places
use Rattle.model.specs.Drawings.{called_by}
use Rattle.model.specs.Inlining.{row, row_at, after, row_after, extended, one_more, rows_up_to}
use Rattle.model.specs.Inlined.{inlined_rows}
use Rattle.drawings.specs.Facts.{DrawingFacts}
use Rattle.rows.specs.Fit.{RowFits, RowsMade}
use Rattle.rows.specs.Next.{Followed}
use Rattle.rows.proofs.Held.{rows_held, rows_fit, rows_end}

module _ (d : List ℕ) where
  pub record Going (rows : List Row) (last : ℕ) : Type 0 where
    pub few : last ≤ places.most_vertices
    pub long : length rows ≡ places.most_vertices + 1
    pub are : take (last + 1) rows ≡ rows_up_to d last

  pub going_first : Going (replicate (places.most_vertices + 1) (row 0 0 0)) 0
  unfolding rows_up_to
  going_first = record { few = omega arith; long = length-replicate (places.most_vertices + 1) (row 0 0 0); are = refl }

  module _ (rows : List Row) (last : ℕ) (going : Going rows last) where
    count_is : length (rows_up_to d last) ≡ last + 1
    count_is = ap length (sym going.are) ∙ length-take-le (last + 1) rows (omega (arith, going.few, going.long))

    same_row : (i : ℕ) → i ≤ last → row_at (rows_up_to d last) i ≡ row_at rows i
    same_row i h = ap (λ (s : List Row). row_at s i) (sym going.are) ∙ get_or-take (last + 1) rows i (row 0 0 0) (omega arith)

    pub row_fits : DrawingFacts d → (i : ℕ) → i ≤ last → RowFits d i (row_at rows i)
    row_fits facts i h = rw (same_row i h) at ((rows_held d facts last).fit.each i (omega (arith, count_is)))

    made : DrawingFacts d → rows_up_to d last ≡ inlined_rows d → RowsMade d rows (last + 1)
    made facts all = record { count_is = sym count_is ∙ ap length all; are = going.are ∙ all; fit = rows_fit d facts }

    pub made_full : DrawingFacts d → places.most_vertices ≤ last → RowsMade d rows (places.most_vertices + 1)
    made_full facts h =
        let full : last ≡ places.most_vertices = omega (arith, going.few) in
        subst (λ (n : ℕ). RowsMade d rows (n + 1)) full (made facts (ap (rows_up_to d) full))

    module _ (facts : DrawingFacts d) (at : ℕ) (is : at ≡ (row_at rows last).first - 1) where
      pub caller_below : at ≤ last
      caller_below = omega (arith, (row_fits facts last (omega arith)).first)

      known_vertex : (i : ℕ) → i ≤ last → (row_at rows i).vertex < places.most_vertices
      known_vertex i h =
          let fits = row_fits facts i h in
          omega (arith, fits.vertex, (facts.drawn (row_at rows i).function fits.function).vertices)

      pub may_follow_lem : last < places.most_vertices → Followed (row_at rows last) (row_at rows at) last
      may_follow_lem h =
          record {
            function = omega (arith, (row_fits facts last (omega arith)).function, facts.functions);
            vertex = known_vertex last (omega arith);
            caller_vertex = known_vertex at caller_below;
            number = h;
          }

      -- The row that follows, by what stands in the array.
      abbrev follower : Option Row
      follower = after d (called_by d (row_at rows last).function (row_at rows last).vertex) (row_at rows last) (row_at rows at) last

      follows : row_after d (rows_up_to d last) (length (rows_up_to d last) - 1) ≡ follower
      unfolding row_after
      follows =
          let here : length (rows_up_to d last) - 1 ≡ last = omega (arith, count_is) in
          rw (here, same_row last (omega arith), ← is, same_row at caller_below)

      pub going_on : last < places.most_vertices → (n : Option Row) (r : Row) → n ≡ follower → n ≡ Some r → Going (set rows (last + 1) r) (last + 1)
      unfolding rows_up_to one_more
      going_on h n r is_told e =
          record {
            few = omega arith;
            long = length-set rows (last + 1) r ∙ going.long;
            are =
                ap (λ (n : ℕ). take n (set rows (last + 1) r)) (add-one (last + 1))
                ∙ take-suc-set rows (last + 1) r (omega (arith, going.long))
                ∙ ap (λ (s : List Row). extended s (Some r)) going.are
                ∙ sym (ap (extended (rows_up_to d last)) (follows ∙ (sym is_told ∙ e)))
                ∙ ap (rows_up_to d) (sym (add-one last));
          }

      pub made_all : (n : Option Row) → n ≡ follower → n ≡ None → RowsMade d rows (last + 1)
      made_all n is_told e =
          let all : places.most_vertices - last + last ≡ places.most_vertices = omega (arith, going.few) in
          made facts (sym (rows_end d last (places.most_vertices - last) (follows ∙ (sym is_told ∙ e))) ∙ ap (rows_up_to d) all)
