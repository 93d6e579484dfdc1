use Prim.Native.Nat.{◌<◌}
use native.Mathlib.Omega.{arith}
use Rattle.lookup.proofs.Places.{facts, vertex_small}
use Rattle.ways.specs.Ways.{most_states}
use Rattle.ways.proofs.Known.{edges_small}
use Rattle.distances.proofs.Searching.{search_begun, turn_vertex, turn_begun, search_on, search_over}
use Rattle.distances.proofs.distances.Goals as goal

pub loop-first-init : goal.loop-first-init
loop-first-init c = search_begun _ _ _ _ (vertex_small _ (facts _ c.requires.fact_1) _ c.requires.fact_3)

pub offset_bounds-steps-state : goal.offset_bounds-steps-state
offset_bounds-steps-state c = omega (arith, (c.loop-first.invariant.queued.inside _ c.loop-first-test.true))

pub bounds-steps-state : goal.bounds-steps-state
bounds-steps-state c = (c.loop-first.invariant.queued.inside _ c.loop-first-test.true)

pub overflow_add-number : goal.overflow_add-number
overflow_add-number c = (let first_small : c.loop-first.first < most_states = omega (arith, c.loop-first.invariant.queued.room) in omega (arith, first_small, c.loop-first.invariant.queued.low _ c.loop-first-test.true))

pub enter_before-end-requires : goal.enter_before-end-requires
enter_before-end-requires c =
    let some = c.loop-first-test.true in record {
      fact_1 = c.requires.fact_2;
      fact_2 = turn_vertex c.loop-first.invariant some;
      fact_3 = record {
        checked = c.requires.fact_1;
        goal = c.args.v;
        first = c.loop-first.first;
        turning = turn_begun c.loop-first.invariant some;
      };
    }

pub loop-first-preserved : goal.loop-first-preserved
loop-first-preserved c =
    search_on (turn_begun c.loop-first.invariant c.loop-first-test.true) c.enter_before-end.ensures

pub returns : goal.returns
returns c = search_over (edges_small _ c.requires.fact_1) c.loop-first.invariant c.loop-first-test.false
