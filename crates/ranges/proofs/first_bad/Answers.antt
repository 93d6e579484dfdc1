use Rattle.model.proofs.Search.{start, miss, hit, none}
use Rattle.ranges.proofs.Turns.{ends_none, ends_more, bad_told}
use mathlib.Core.Path.{◌∙◌}
use Rattle.ranges.proofs.first_bad.Goals as goal

pub loop-j-init : goal.loop-j-init
loop-j-init c = (start _ _, c.none-ends.ensures ∙ ends_none _)

pub loop-j-preserved : goal.loop-j-preserved
loop-j-preserved c =
    let (searched, ends) = c.loop-j.invariant in
    (miss searched c.loop-j-test.true (bad_told _ _ _ ends c.is_bad.ensures c.if-is_bad.false), ends_more _ _ ends c.with_end-ends.ensures)

pub returns-then-is_bad : goal.returns-then-is_bad
returns-then-is_bad c =
    let (searched, ends) = c.loop-j.invariant in hit searched c.loop-j-test.true (bad_told _ _ _ ends c.is_bad.ensures c.if-is_bad.true)

pub returns : goal.returns
returns c = none c.loop-j.invariant.0 c.loop-j-test.false
