-- `fill_rivals` has the others of the regions of the functions passed.
use Rattle.model.specs.Numbers.{problem_of}
use Rattle.rivals.specs.Rivals.{RivalsBelow}
use Rattle.rivals.proofs.fill_rivals.Given as goal

abbrev pub invariant-loop-f : goal.invariant-loop-f
invariant-loop-f l = RivalsBelow l.layout (problem_of l.l).function_count l.f l.rivals
