-- `judge_last` is its definition. The loop's invariant: the last vertices of the functions passed over call nothing.
use Rattle.model.specs.Drawings.{drawn_functions}
use Rattle.model.specs.Inlined.{last_calls}
use Rattle.model.proofs.Search.{Searched}
use Rattle.drawn_calls.proofs.judge_last.Given as goal

abbrev pub invariant-loop-f : goal.invariant-loop-f
invariant-loop-f l = Searched (drawn_functions l.d) (last_calls l.d) l.f
