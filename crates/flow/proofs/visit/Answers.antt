use Rattle.std.proofs.Common.{rules}
use Rattle.lookup.proofs.Places.{facts}
use Rattle.flow.proofs.Visits.{not_waiting, begun, edge_now, end_small, turn, ended}
use Rattle.flow.proofs.visit.Goals as goal

pub returns-then-not-marks-u : goal.returns-then-not-marks-u
returns-then-not-marks-u g c = not_waiting c.requires.underway.flowing (search rules)

pub loop-i-init : goal.loop-i-init
loop-i-init g c =
    begun c.requires.underway c.requires.there (g.met.F.Flow.laws _ _ c.requires.underway.checked) c.leaving-brought.ensures

pub edge_to-v-requires : goal.edge_to-v-requires
edge_to-v-requires g c =
    record { fact_1 = facts _ c.loop-i.invariant.visit.edges.checked; fact_2 = (edge_now c.loop-i.invariant c.loop-i-test.true).here }

pub gain-gained-requires-clause-small : goal.gain-gained-requires-clause-small
gain-gained-requires-clause-small g c = end_small c.loop-i.invariant c.loop-i-test.true c.edge_to-v.ensures

pub bounds-marks-v : goal.bounds-marks-v
bounds-marks-v g c = end_small c.loop-i.invariant c.loop-i-test.true c.edge_to-v.ensures

pub bounds-marks-v-in-loop-i : goal.bounds-marks-v-in-loop-i
bounds-marks-v-in-loop-i g c = end_small c.loop-i.invariant c.loop-i-test.true c.edge_to-v.ensures

pub loop-i-preserved : goal.loop-i-preserved
loop-i-preserved g c = turn c.loop-i.invariant c.loop-i-test.true c.edge_to-v.ensures c.gain-gained.ensures

pub returns : goal.returns
returns g c = ended c.loop-i.invariant c.loop-i-test.false
