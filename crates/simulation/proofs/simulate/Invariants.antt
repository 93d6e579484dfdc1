-- `simulation::simulate` runs visit by visit. The loop's invariant: the state is that of the run after the first i entries.
use Rattle.model.specs.Numbers.{problem_of}
use Rattle.simulation.proofs.Visits.{Running}
use Rattle.simulation.proofs.simulate.Given as goal

abbrev pub invariant-loop-entry : goal.invariant-loop-entry
invariant-loop-entry l = Running (problem_of l.l) l.layout l.walk l.entry-index l.held l.latest l.run
