use native.Mathlib.Omega.{arith}
use lib.ListN.{set}
use Rattle.lookup.proofs.Places.{facts}
use Rattle.following.proofs.Following.{follow_begun, next_inside, follow_next, next_small, follow_on, followed, room_kept}
use Rattle.following.proofs.follow.Goals as goal

pub offset_bounds-steps-phase : goal.offset_bounds-steps-phase
offset_bounds-steps-phase c = omega (arith, c.requires.leading.low)

pub bounds-steps-phase : goal.bounds-steps-phase
bounds-steps-phase c = omega (arith, c.requires.leading.low)

pub loop-n-init : goal.loop-n-init
loop-n-init c =
    let ready = room_kept c.args.walk.now 0 0 c.requires in
    (ready, follow_begun ready (set c.args.walk.now 0 0) (omega arith))

pub function_of-requires : goal.function_of-requires
function_of-requires c = let (ready, following) = c.loop-n.invariant in record { fact_1 = facts _ ready.leading.checked; fact_2 = following.there }

pub next_vertex-u-requires : goal.next_vertex-u-requires
next_vertex-u-requires c =
    let (ready, following) = c.loop-n.invariant in
    follow_next ready _ following c.function_of.ensures c.turn-t.ensures (omega arith)

pub overflow_add-walk : goal.overflow_add-walk
overflow_add-walk c = let (ready, following) = c.loop-n.invariant in omega (arith, (next_inside ready _ following (omega arith)).1)

pub overflow_cast-walk : goal.overflow_cast-walk
overflow_cast-walk c =
    let (ready, following) = c.loop-n.invariant in
    omega (arith, next_small ready _ following c.function_of.ensures c.turn-t.ensures (omega arith) c.next_vertex-u.ensures)

pub offset_bounds-walk-n : goal.offset_bounds-walk-n
offset_bounds-walk-n c = let (ready, following) = c.loop-n.invariant in omega (arith, (next_inside ready _ following (omega arith)).1)

pub bounds-walk-n : goal.bounds-walk-n
bounds-walk-n c =
    let (ready, following) = c.loop-n.invariant in
    omega (arith, (next_inside ready _ following (omega arith)).0, following.long)

pub loop-n-preserved : goal.loop-n-preserved
loop-n-preserved c =
    let (ready, following) = c.loop-n.invariant in
    (ready, follow_on ready _ following c.function_of.ensures c.turn-t.ensures (omega arith) c.next_vertex-u.ensures (omega arith))

pub returns : goal.returns
returns c = let (ready, following) = c.loop-n.invariant in followed ready _ following (omega arith)
