-- `put_edges` puts the edges row by row. The loop's invariant: those of the first i rows are put.
use Prim.Native.Nat.{ℕ}
use mathlib.Core.List.{List}
use lib.ListN.{length}
use Rattle.model.specs.declared.Edge.{Edge}
use Rattle.model.specs.declared.Row.{Row}
use Rattle.model.specs.Places as places
use Rattle.model.specs.Numbers.{edge_numbers}
use Rattle.model.specs.Drawings.{called_by}
use Rattle.model.specs.Inlining.{row_at, edges_from}
use Rattle.links.proofs.Adding.{Through}
use Rattle.links.proofs.put_edges.Given as goal

abbrev edges_of_row : List ℕ → List Row → ℕ → List Edge
edges_of_row d rows i = edges_from d rows (called_by d (row_at rows i).function (row_at rows i).vertex) i (row_at rows i)

abbrev pub invariant-loop-i : goal.invariant-loop-i
invariant-loop-i l =
    Through places.most_edges places.from edge_numbers (edges_of_row l.d l.rows) (length l.rows) l.initial.numbers l.i l.numbers l.k
