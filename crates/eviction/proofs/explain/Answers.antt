-- `explain` finds the steps to v past no vertex of its function, then the function that evicts, and shows the walk of the reason.
use Rattle.lookup.proofs.Places.{facts}
use Rattle.eviction.proofs.Explaining.{shares, every_leads, every_explained, first_leads, first_explained, never_explained}
use Rattle.eviction.proofs.explain.Goals as goal

pub function_of-f-requires : goal.function_of-f-requires
function_of-f-requires c = let pre = c.requires in record { fact_1 = facts _ pre.checked; fact_2 = pre.there }

pub lowest-g-requires : goal.lowest-g-requires
lowest-g-requires c = shares c.requires c.function_of-f.ensures

pub show-requires : goal.show-requires
show-requires c =
    every_leads c.requires c.function_of-f.ensures c.distances-free.ensures c.lowest-g.ensures c.starts-begins.ensures
    c.if-g-lt-NO_FUNCTION.true c.distances-steps.ensures

pub returns-then-g-lt-NO_FUNCTION : goal.returns-then-g-lt-NO_FUNCTION
returns-then-g-lt-NO_FUNCTION c =
    every_explained c.requires c.function_of-f.ensures c.distances-free.ensures c.lowest-g.ensures c.starts-begins.ensures
    c.if-g-lt-NO_FUNCTION.true c.distances-steps.ensures _ _ _ c.show.ensures

pub show-requires-then-free-lt-NO_WAY : goal.show-requires-then-free-lt-NO_WAY
show-requires-then-free-lt-NO_WAY c =
    first_leads c.requires c.function_of-f.ensures c.distances-free.ensures c.lowest-g.ensures c.starts-begins.ensures
    c.if-g-lt-NO_FUNCTION.false c.if-free-lt-NO_WAY.true

pub returns-then-free-lt-NO_WAY : goal.returns-then-free-lt-NO_WAY
returns-then-free-lt-NO_WAY c =
    first_explained c.requires c.function_of-f.ensures c.distances-free.ensures c.lowest-g.ensures c.starts-begins.ensures
    c.if-g-lt-NO_FUNCTION.false c.if-free-lt-NO_WAY.true _ _ _ c.show-then-free-lt-NO_WAY.ensures

pub returns : goal.returns
returns c =
    never_explained c.requires c.function_of-f.ensures c.distances-free.ensures c.lowest-g.ensures c.starts-begins.ensures
    c.if-g-lt-NO_FUNCTION.false c.if-free-lt-NO_WAY.false _
