use native.Mathlib.Omega.{arith}
use Rattle.model.proofs.Cases.{all_done}
use Rattle.lookup.proofs.Places.{facts, to_small}
use Rattle.entered.proofs.Marking.{none_marked, one_marked, all_marked}
use Rattle.entered.proofs.entered_flags.Goals as goal

pub edge_count-count-requires : goal.edge_count-count-requires
edge_count-count-requires c = facts _ c.requires

pub loop-i-init : goal.loop-i-init
loop-i-init c = none_marked _

pub edge_to-to-requires-clause-fact_1 : goal.edge_to-to-requires-clause-fact_1
edge_to-to-requires-clause-fact_1 c = facts _ c.requires

pub loop-i-preserved : goal.loop-i-preserved
loop-i-preserved c =
    one_marked _ _ _ _ c.loop-i.invariant c.is_crossing.ensures c.edge_to-to.ensures (omega (arith, c.edge_to-to.ensures, to_small _ (facts _ c.requires) c.loop-i.i (omega (arith, c.loop-i-test.true, c.edge_count-count.ensures)))) c.flag_after.ensures

pub returns : goal.returns
returns c =
    all_marked _ _ (all_done _ _ _ (omega arith) c.loop-i-test.false c.edge_count-count.ensures) c.loop-i.invariant
