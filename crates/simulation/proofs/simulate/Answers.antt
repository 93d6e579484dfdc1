use Rattle.simulation.proofs.Visits.{not_yet, ready, next_visit, run_over}
use Rattle.simulation.proofs.simulate.Goals as goal

pub place_table-places-requires : goal.place_table-places-requires
place_table-places-requires c = record { fact_1 = c.requires.checked; fact_2 = c.requires.regions.listed }

pub cost_table-costs-requires : goal.cost_table-costs-requires
cost_table-costs-requires c = c.requires.checked

pub loop-entry-init : goal.loop-entry-init
loop-entry-init c = not_yet _ _ _

pub visit-run-requires : goal.visit-run-requires
visit-run-requires c =
    ready _ _ _ c.requires _ _ c.place_table-places.ensures c.cost_table-costs.ensures _ _ _ _ c.loop-entry-test.true c.loop-entry.invariant

pub loop-entry-preserved : goal.loop-entry-preserved
loop-entry-preserved c =
    next_visit _ _ _ c.requires _ _ c.place_table-places.ensures c.cost_table-costs.ensures _ _ _ _ c.loop-entry-test.true c.loop-entry.invariant _ _ _ c.visit-run.ensures

pub returns : goal.returns
returns c = run_over _ _ _ _ _ _ _ c.loop-entry-test.false c.loop-entry.invariant
