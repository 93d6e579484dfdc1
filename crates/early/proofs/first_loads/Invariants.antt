-- `early::first_loads` adds up the first loads of the functions passed.
use Rattle.model.specs.Numbers.{problem_of}
use Rattle.model.specs.Costs.{total}
use Rattle.regions.proofs.Sums.{Upto}
use Rattle.bits.specs.Tests.{has}
use Rattle.early.specs.Early.{first_load}
use Rattle.early.proofs.first_loads.Given as goal

abbrev pub invariant-loop-f : goal.invariant-loop-f
invariant-loop-f l = Upto (λ n. total n (first_load (problem_of l.l) (has l.functions))) (problem_of l.l).function_count l.f l.loads.0
