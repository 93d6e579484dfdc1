-- `judge_graphs` is its definition. The loop's invariant: the graphs of the functions passed over are good.
use Rattle.model.specs.Drawings.{drawn_functions}
use Rattle.model.specs.Inlined.{bad_graph}
use Rattle.model.proofs.Search.{Searched}
use Rattle.drawn_graphs.proofs.judge_graphs.Given as goal

abbrev pub invariant-loop-f : goal.invariant-loop-f
invariant-loop-f l = Searched (drawn_functions l.d) (bad_graph l.d) l.f
