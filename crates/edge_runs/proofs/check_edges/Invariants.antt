-- `check_edges` judges a run of edges. The invariant: the edges so far are good, and what is left to judge is the same.
use Rattle.edge_runs.proofs.EdgesChecked.{Running}
use Rattle.edge_runs.proofs.check_edges.Given as goal

abbrev pub invariant-loop-run : goal.invariant-loop-run
invariant-loop-run l = Running l.numbers l.vertices l.field l.run
