-- `put_loops` puts the loops row by row. The loop's invariant: those of the first i rows are put.
use Prim.Native.Nat.{ℕ}
use mathlib.Core.List.{List, flat_map}
use lib.ListN.{length}
use Rattle.model.specs.declared.Loop.{Loop}
use Rattle.model.specs.declared.Row.{Row}
use Rattle.model.specs.Places as places
use Rattle.model.specs.Numbers.{loop_numbers}
use Rattle.model.specs.Drawings.{graph_of}
use Rattle.model.specs.Graph.{loops_of}
use Rattle.model.specs.Inlining.{row_at, around}
use Rattle.links.proofs.Adding.{Through}
use Rattle.links.proofs.put_loops.Given as goal

abbrev loops_of_row : List ℕ → List Row → ℕ → List Loop
loops_of_row d rows i = flat_map (around d rows i (row_at rows i)) (loops_of (graph_of d (row_at rows i).function))

abbrev pub invariant-loop-i : goal.invariant-loop-i
invariant-loop-i l =
    Through places.most_loops places.header loop_numbers (loops_of_row l.d l.rows) (length l.rows) l.initial.numbers l.i l.numbers l.k
