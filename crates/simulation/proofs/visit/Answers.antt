-- `simulation::visit` makes of a run's state what the tables say.
use Prim.Native.Nat.{◌≤◌}
use native.Mathlib.Omega.{arith}
use Rattle.simulation.proofs.Visits.{one_check, one_load, cost_fits, made_visit}
use borrow.Author.Rules.{rules}
use Rattle.simulation.proofs.visit.Goals as goal

pub cost_of_visit-requires : goal.cost_of_visit-requires
cost_of_visit-requires c = (search rules, ((let checks_few : c.one_unless_same-checks.result ≤ 1 = let a = c.args in one_check a.places.now a.latest.now a.v _ c.one_unless_same-checks.ensures in checks_few), (let loads_few : c.one_unless_same-loads.result ≤ 1 = let a = c.args in one_load a.places.now a.held.now a.v _ c.one_unless_same-loads.ensures in loads_few)))

pub add-cycles-requires : goal.add-cycles-requires
add-cycles-requires c =
    let a = c.args in
    omega (arith, cost_fits a.places.now a.costs.now a.held.now a.latest.now a.run a.v _ _ c.one_unless_same-checks.ensures c.one_unless_same-loads.ensures _ c.cost_of_visit.ensures c.requires)

pub returns : goal.returns
returns c =
    made_visit _ _ _ _ _ _ _ _ c.one_unless_same-checks.ensures c.one_unless_same-loads.ensures _ c.cost_of_visit.ensures _ c.add-cycles.ensures
