-- `rows_of` makes the rows one after another.
use Prim.Native.Nat.{◌+◌, ◌<◌}
use native.Mathlib.Omega.{arith}
use Rattle.rows.proofs.Going.{going_first, going_on, may_follow_lem, caller_below, made_all, made_full}
use Rattle.model.specs.Places as places
use Rattle.rows.proofs.rows_of.Goals as goal
use Rattle.rows.proofs.rows_of.Goals.{After-one_before}

room : (c : After-one_before) → c.one_before.result < places.most_vertices + 1
room c = let k = c.loop-last.invariant in omega (arith, k.few, caller_below _ _ _ k c.requires _ c.one_before.ensures)

pub loop-last-init : goal.loop-last-init
loop-last-init c = going_first _

pub offset_bounds-rows-one_before : goal.offset_bounds-rows-one_before
offset_bounds-rows-one_before c = omega (arith, room (goal.at.offset_bounds-rows-one_before c).After-one_before)

pub bounds-rows-one_before : goal.bounds-rows-one_before
bounds-rows-one_before c = omega (arith, room (goal.at.bounds-rows-one_before c).After-one_before)

pub row_after-next-requires : goal.row_after-next-requires
row_after-next-requires c =
    may_follow_lem _ _ _ c.loop-last.invariant c.requires _ c.one_before.ensures c.loop-last-test.true

pub returns-in_default : goal.returns-in_default
returns-in_default c =
    made_all _ _ _ c.loop-last.invariant c.requires _ c.one_before.ensures _ c.row_after-next.ensures c.in_default.is

pub loop-last-preserved : goal.loop-last-preserved
loop-last-preserved c =
    going_on _ _ _ c.loop-last.invariant c.requires _ c.one_before.ensures c.loop-last-test.true _ _ c.row_after-next.ensures c.in-Some.is

pub returns : goal.returns
returns c = made_full _ _ _ c.loop-last.invariant c.requires c.loop-last-test.false
