-- `row_after` meets its contract: a case of the definition for each way out.
use Rattle.rows.proofs.After.{callee_follows, next_follows, nothing_follows, caller_follows}
use Rattle.rows.proofs.row_after.Goals as goal

pub returns-then-callee-ne-NONE : goal.returns-then-callee-ne-NONE
returns-then-callee-ne-NONE c = callee_follows _ _ _ _ _ c.callee_at-callee.ensures c.if-callee-ne-NONE.true

pub returns-then-onward-vertex_count : goal.returns-then-onward-vertex_count
returns-then-onward-vertex_count c =
    next_follows _ _ _ _ _ c.callee_at-callee.ensures c.if-callee-ne-NONE.false _ c.vertex_count.ensures c.if-onward-vertex_count.true

pub returns-then-r-eq0 : goal.returns-then-r-eq0
returns-then-r-eq0 c =
    nothing_follows _ _ _ _ _ c.callee_at-callee.ensures c.if-callee-ne-NONE.false _ c.vertex_count.ensures c.if-onward-vertex_count.false c.if-r-eq0.true

pub returns : goal.returns
returns c =
    caller_follows _ _ _ _ _ c.callee_at-callee.ensures c.if-callee-ne-NONE.false _ c.vertex_count.ensures c.if-onward-vertex_count.false c.if-r-eq0.false
