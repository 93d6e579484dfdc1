-- The rows that were made of a drawing are such as the table and the lists are made from.
use Prim.Native.Nat.{ℕ, ◌≤◌}
use mathlib.Core.Path.{◌≡◌, sym, ap, subst, ◌∙◌}
use mathlib.Core.List.{List}
use native.Mathlib.Omega.{arith}
use lib.ListN.{length, take, replicate}
use Rattle.model.specs.declared.Row.{Row}
use Rattle.model.specs.Places as places
use Rattle.drawings.specs.Facts.{DrawingFacts}
use Rattle.rows.specs.Fit.{RowsFit, RowsMade}
use Rattle.links.specs.Placed.{spot_count, Placed, Inside, Rowed}
use Rattle.links.proofs.Drawn.{row_vertex, row_first}

pub rows_inside : (d : List ℕ) (rows : List Row) → DrawingFacts d → RowsFit d rows → length rows ≤ places.most_vertices → Inside rows
rows_inside d rows facts fit few =
    record {
      first = λ i h. row_first d facts i _ (fit.each i h) (omega arith);
      vertex = λ i h. row_vertex d facts i _ (fit.each i h);
    }

module _ (d : List ℕ) (rows : List Row) (count : ℕ) (facts : DrawingFacts d) (made : RowsMade d rows count) (few : count ≤ places.most_vertices) where
  made_fit : RowsFit d (take count rows)
  made_fit = subst (RowsFit d) (sym made.are) made.fit

  pub made_few : length (take count rows) ≤ places.most_vertices
  made_few = rw made.are (omega (arith, made.count_is))

  -- Where the table holds the number of rows, no vertex has a row.
  pub made_table : replicate spot_count count ≡ replicate spot_count (length (take count rows))
  made_table = ap (replicate spot_count) (made.count_is ∙ sym (ap length made.are))

  pub made_inside : Inside (take count rows)
  made_inside = rows_inside d (take count rows) facts made_fit made_few

  pub made_rowed : (table : List ℕ) → Placed (take count rows) table → Rowed d (take count rows) table
  made_rowed table placed = record { facts = facts; fit = made_fit; few = made_few; placed = placed }
