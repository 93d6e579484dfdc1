-- `fill_places` fills the table from the last row down. The loop's invariant: the rows from i on are placed.
use Rattle.links.proofs.Spots.{PlacedFrom}
use Rattle.links.proofs.fill_places.Given as goal

abbrev pub invariant-loop-i : goal.invariant-loop-i
invariant-loop-i l = PlacedFrom l.rows l.i l.table
