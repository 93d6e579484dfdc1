use mathlib.Core.Path.{◌≡◌}
use native.Mathlib.Omega.{arith}
use lib.ListN.{length}
use borrow.Author.Tests.{not-true, not-false}
use Rattle.lookup.proofs.Places.{facts, few_vertices}
use Rattle.walk.proofs.Entries.{begin, latest_few, stepping, bad, arriving, past, good, ends_well, ends_early}
use Rattle.walk.proofs.judge.Goals as goal

pub step_table-steps-requires : goal.step_table-steps-requires
step_table-steps-requires c = c.requires

pub bound_table-bounds-requires : goal.bound_table-bounds-requires
bound_table-bounds-requires c = c.requires

pub loop-i-init : goal.loop-i-init
loop-i-init c = begin _ c.requires _

pub step_to-step-requires : goal.step_to-step-requires
step_to-step-requires c =
    record { fact_1 = omega (arith, few_vertices _ (facts _ c.requires)); fact_2 = latest_few _ c.requires _ _ _ _ c.loop-i.invariant }

pub returns-then-step-eq0 : goal.returns-then-step-eq0
returns-then-step-eq0 c = bad _ c.requires _ _ _ _ _ (stepping _ c.requires _ _ _ _ c.loop-i.invariant c.loop-i-test.true _ c.step_table-steps.ensures _ c.vertex_count-vertices.ensures _ c.step_to-step.ensures) c.if-step-eq0.true

pub count_arrival-requires : goal.count_arrival-requires
count_arrival-requires c = arriving _ c.requires _ _ _ _ _ (stepping _ c.requires _ _ _ _ c.loop-i.invariant c.loop-i-test.true _ c.step_table-steps.ensures _ c.vertex_count-vertices.ensures _ c.step_to-step.ensures) c.if-step-eq0.false

pub returns-then-not-count_arrival : goal.returns-then-not-count_arrival
returns-then-not-count_arrival c =
    past _ c.requires _ _ _ _ _ (stepping _ c.requires _ _ _ _ c.loop-i.invariant c.loop-i-test.true _ c.step_table-steps.ensures _ c.vertex_count-vertices.ensures _ c.step_to-step.ensures) c.if-step-eq0.false _ c.bound_table-bounds.ensures _ _ c.count_arrival.ensures (not-true _ c.if-not-count_arrival.true-raw)

pub loop-i-preserved : goal.loop-i-preserved
loop-i-preserved c =
    good _ c.requires _ _ _ _ _ (stepping _ c.requires _ _ _ _ c.loop-i.invariant c.loop-i-test.true _ c.step_table-steps.ensures _ c.vertex_count-vertices.ensures _ c.step_to-step.ensures) c.if-step-eq0.false _ c.bound_table-bounds.ensures _ _ c.count_arrival.ensures (not-false _ c.if-not-count_arrival.false-raw)

pub overflow_add-u : goal.overflow_add-u
overflow_add-u c = omega (arith, latest_few _ c.requires _ _ _ _ c.loop-i.invariant)

pub returns-then-u-vertices : goal.returns-then-u-vertices
returns-then-u-vertices c = ends_well _ c.requires _ _ _ _ c.loop-i.invariant c.loop-i-test.false (omega arith)

pub returns : goal.returns
returns c =
    let over : length c.args.walk.now ≡ c.loop-i.i = omega (arith, c.loop-i.invariant.within, c.loop-i-test.false) in
    rw over (ends_early _ c.requires _ _ _ _ c.loop-i.invariant c.loop-i-test.false (λ e. c.if-u-vertices.false (omega arith)))
