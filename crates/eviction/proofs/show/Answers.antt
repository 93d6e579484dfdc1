-- `show` knows the walk's entries by the steps from vertex 0, and follows them where there is room.
use native.Mathlib.Omega.{arith}
use Rattle.eviction.proofs.Entries.{steps_few, too_short, followable, showed}
use Rattle.eviction.proofs.show.Goals as goal

pub offset_bounds-steps-phase : goal.offset_bounds-steps-phase
offset_bounds-steps-phase c = omega (arith, c.requires.low)

pub bounds-steps-phase : goal.bounds-steps-phase
bounds-steps-phase c = omega (arith, c.requires.low)

pub overflow_add-count : goal.overflow_add-count
overflow_add-count c = omega (arith, steps_few c.requires)

pub returns-then-walk-count : goal.returns-then-walk-count
returns-then-walk-count c = too_short c.requires c.args.reason c.args.walk.now c.if-walk-count.true

pub follow-requires : goal.follow-requires
follow-requires c = followable c.requires _ c.if-walk-count.false

pub returns : goal.returns
returns c =
    showed c.requires c.args.reason c.args.walk.now c.if-walk-count.false _ c.follow.ensures
