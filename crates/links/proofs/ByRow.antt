-- What a row's turn finds: the row and its call vertex are the drawing's, and the edges that are put are those that the rows give.
use Prim.Native.Nat.{ℕ, ◌-◌, ◌<◌}
use mathlib.Core.Path.{◌≡◌, sym, ap}
use mathlib.Core.List.{List}
use native.Mathlib.Omega.{arith}
use lib.ListN.{length}
use Rattle.model.specs.declared.Row.{Row}
use Rattle.model.specs.Places as places
use Rattle.model.specs.Drawings.{called_by}
use Rattle.model.specs.Inlining.{row_at, edges_from}
use Rattle.rows.specs.Fit.{RowFits}
use Rattle.links.specs.Put.{AddsEdges}
use Rattle.links.specs.Placed.{Placed, Rowed}

module _ (d : List ℕ) (rows : List Row) (table : List ℕ) (rowed : Rowed d rows table) (i : ℕ) (h : i < length rows) where
  abbrev here : Row
  here = row_at rows i

  pub here_fits : RowFits d i here
  here_fits = rowed.fit.each i h

  pub here_below : i < places.most_vertices
  here_below = omega (arith, rowed.few)

  -- The call vertex, the one before the copy's first.
  module _ (c : ℕ) (is : c ≡ here.first - 1) where
    pub caller_below : c < length rows
    caller_below = omega (arith, here_fits.first)

    pub caller_fits : RowFits d i (row_at rows c)
    caller_fits =
        let fits = rowed.fit.each c caller_below in
        record { function = fits.function; vertex = fits.vertex; first = omega (arith, fits.first, here_fits.first) }

    pub row_edges_lem : (l : List ℕ) (k : ℕ) (l' : List ℕ) (k' : ℕ) →
        ((all : List Row) → Placed all table → row_at all (here.first - 1) ≡ row_at rows c → AddsEdges l k (edges_from d all (called_by d here.function here.vertex) i here) l' k') →
        AddsEdges l k (edges_from d rows (called_by d here.function here.vertex) i here) l' k'
    row_edges_lem l k l' k' put = put rows rowed.placed (ap (row_at rows) (sym is))
