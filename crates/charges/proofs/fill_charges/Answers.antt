use native.Mathlib.Omega.{arith}
use Rattle.model.proofs.Cases.{all_done}
use Rattle.lookup.proofs.Places.{facts, few_vertices}
use Rattle.charges.proofs.Filling.{none_charged, one_charged, all_charged}
use Rattle.charges.proofs.fill_charges.Goals as goal

pub loop-v-init : goal.loop-v-init
loop-v-init c = (omega arith, none_charged c.requires.checked_2)

pub visit_charge-visit-requires : goal.visit_charge-visit-requires
visit_charge-visit-requires c =
    record { checked_1 = c.requires.checked_1; checked_2 = omega (arith, c.vertex_count-count.ensures, c.loop-v-test.true); entered_told_1 = c.requires.entered_told_1; entered_told_2 = c.requires.entered_told_2 }

pub offset_bounds-charge-v : goal.offset_bounds-charge-v
offset_bounds-charge-v c = omega (arith, c.loop-v-test.true, c.vertex_count-count.ensures, few_vertices _ (facts _ c.requires.checked_1))

pub bounds-charge-v : goal.bounds-charge-v
bounds-charge-v c = omega (arith, c.loop-v-test.true, c.vertex_count-count.ensures, few_vertices _ (facts _ c.requires.checked_1))

pub loop-v-preserved : goal.loop-v-preserved
loop-v-preserved c =
    let taken = c.loop-v-test.true in
    (omega arith, one_charged c.loop-v.invariant.1 (omega (arith, c.vertex_count-count.ensures, few_vertices _ (facts _ c.requires.checked_1))) c.visit_charge-visit.ensures)

pub returns : goal.returns
returns c =
    all_charged _ c.requires.checked_1 _ (all_done _ _ _ c.loop-v.invariant.0 c.loop-v-test.false c.vertex_count-count.ensures) c.loop-v.invariant.1
