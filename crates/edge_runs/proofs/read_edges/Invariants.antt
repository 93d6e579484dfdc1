-- `read_edges` reads a run of edges. The invariant: the edges so far are read, and what is left to read is the same.
use Rattle.edge_runs.proofs.EdgesRead.{Running}
use Rattle.edge_runs.proofs.read_edges.Given as goal

abbrev pub invariant-loop-run : goal.invariant-loop-run
invariant-loop-run l = Running l.bytes l.initial.numbers l.at l.vertices l.field l.numbers l.run
