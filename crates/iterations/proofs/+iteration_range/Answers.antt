use mathlib.Core.Path.{refl}
use native.Mathlib.Omega.{arith}
use Rattle.chains.proofs.Checks.{facts, loop_range, range_wide, range_small}
use Rattle.iterations.proofs.Parts.{inside_loop}
use Rattle.iterations.proofs.Progress.{enter_loop, end_loop, begin, finish, at_vertex, filling_here, vertex_small, loop_begun, here_loop, loop_short, past_visit, past_loop}
use Rattle.iterations.proofs.+iteration_range.Goals as goal

pub iteration-loop_header-header-requires : goal.iteration-loop_header-header-requires
iteration-loop_header-header-requires t c = record { fact_1 = facts c.requires.1.1.ready.checked; fact_2 = c.requires.1.0 }

pub iteration-loop_last-last-requires : goal.iteration-loop_last-last-requires
iteration-loop_last-last-requires t c = record { fact_1 = facts c.requires.1.1.ready.checked; fact_2 = c.requires.1.0 }

pub iteration-range-requires : goal.iteration-range-requires
iteration-range-requires t c =
    let range = loop_range c.requires.1.1.ready.checked c.requires.1.0 c.loop_header-header.ensures c.loop_last-last.ensures in (
      omega (arith, range_wide range),
      (c.requires.0, (inside_loop range, enter_loop range c.requires.1.1 c.entry_number-entry.ensures)),
    )

pub iteration-returns : goal.iteration-returns
iteration-returns t c =
    let range = loop_range c.requires.1.1.ready.checked c.requires.1.0 c.loop_header-header.ensures c.loop_last-last.ensures in
    end_loop range c.range.ensures c.turn_number-turn.ensures c.stay_in-stay.ensures

pub range-loop_count-count-requires : goal.range-loop_count-count-requires
range-loop_count-count-requires t c = facts c.requires.1.1.ready.checked

pub range-loop-v-init : goal.range-loop-v-init
range-loop-v-init t c = begin c.requires.1.0 c.requires.1.1

pub range-loop_at-i-requires : goal.range-loop_at-i-requires
range-loop_at-i-requires t c =
    let at = at_vertex c.requires.1.0 c.loop-v.invariant c.loop-v-test.true in
    record { fact_1 = (filling_here at).ready.checked; fact_2 = c.requires.0.out; fact_3 = vertex_small at }

pub range-iteration-requires : goal.range-iteration-requires
range-iteration-requires t c =
    let at = at_vertex c.requires.1.0 c.loop-v.invariant c.loop-v-test.true in
    let range = loop_begun at c.loop_count-count.ensures c.if-i-count.true c.loop_at-i.ensures refl in
    (omega (arith, loop_short at range), (c.requires.0, (range.below, here_loop at range)))

pub range-loop_last-v-requires : goal.range-loop_last-v-requires
range-loop_last-v-requires t c =
    let at = at_vertex c.requires.1.0 c.loop-v.invariant c.loop-v-test.true in
    let range = loop_begun at c.loop_count-count.ensures c.if-i-count.true c.loop_at-i.ensures refl in
    record { fact_1 = facts range.checked; fact_2 = range.below }

pub range-overflow_add-v : goal.range-overflow_add-v
range-overflow_add-v t c =
    let at = at_vertex c.requires.1.0 c.loop-v.invariant c.loop-v-test.true in
    let passed = loop_begun at c.loop_count-count.ensures c.if-i-count.true c.loop_at-i.ensures c.loop_last-v.ensures in
    omega (arith, range_small passed)

pub range-loop-v-smaller-then-i-count : goal.range-loop-v-smaller-then-i-count
range-loop-v-smaller-then-i-count t c =
    let at = at_vertex c.requires.1.0 c.loop-v.invariant c.loop-v-test.true in
    let passed = loop_begun at c.loop_count-count.ensures c.if-i-count.true c.loop_at-i.ensures c.loop_last-v.ensures in
    omega (arith, at.more, range_wide passed)

pub range-loop-v-preserved-then-i-count : goal.range-loop-v-preserved-then-i-count
range-loop-v-preserved-then-i-count t c =
    let at = at_vertex c.requires.1.0 c.loop-v.invariant c.loop-v-test.true in
    let passed = loop_begun at c.loop_count-count.ensures c.if-i-count.true c.loop_at-i.ensures c.loop_last-v.ensures in
    past_loop at passed c.iteration.ensures

pub range-visit_number-number-requires : goal.range-visit_number-number-requires
range-visit_number-number-requires t c =
    let at = at_vertex c.requires.1.0 c.loop-v.invariant c.loop-v-test.true in
    let f = filling_here at in
    record { fact_1 = c.requires.0; fact_2 = f.ready; fact_3 = f.charges; fact_4 = omega (arith, vertex_small at) }

pub range-offset_bounds-d-v : goal.range-offset_bounds-d-v
range-offset_bounds-d-v t c =
    let at = at_vertex c.requires.1.0 c.loop-v.invariant c.loop-v-test.true in
    omega (arith, vertex_small at)

pub range-bounds-d-v : goal.range-bounds-d-v
range-bounds-d-v t c =
    let at = at_vertex c.requires.1.0 c.loop-v.invariant c.loop-v-test.true in
    omega (arith, vertex_small at)

pub range-overflow_add-v-else-i-count : goal.range-overflow_add-v-else-i-count
range-overflow_add-v-else-i-count t c =
    let at = at_vertex c.requires.1.0 c.loop-v.invariant c.loop-v-test.true in
    omega (arith, vertex_small at)

pub range-loop-v-preserved : goal.range-loop-v-preserved
range-loop-v-preserved t c =
    let at = at_vertex c.requires.1.0 c.loop-v.invariant c.loop-v-test.true in
    past_visit at (c.loop_at-i.ensures.none (omega (arith, c.loop_count-count.ensures, c.if-i-count.false))) c.visit_number-number.ensures

pub range-returns : goal.range-returns
range-returns t c = finish c.loop-v.invariant c.loop-v-test.false
