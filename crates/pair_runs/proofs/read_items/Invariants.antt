-- `read_items` reads a run, item by item. The invariant: the items so far are read, and what is left to read is the same.
use Rattle.edge_runs.specs.Edges.{PairsRead}
use Rattle.pair_runs.proofs.read_items.Given as goal

abbrev pub invariant-loop-items : goal.invariant-loop-items
invariant-loop-items l = PairsRead l.bytes l.at l.field l.initial.numbers l.numbers l.items l.pos
