-- `judge_head` is its definition: the scratchpad size, then the number of functions.
use mathlib.Core.Path.{refl}
use Rattle.model.specs.Limits.{most_bytes}
use Rattle.model.specs.Table.{limits}
use Rattle.model.specs.Places as places
use Rattle.drawn_graphs.proofs.Stages.{head_told, limit_told}
use Rattle.drawn_graphs.proofs.judge_head.Goals as goal

pub returns-then-not-contains : goal.returns-then-not-contains
unfolding limits
returns-then-not-contains c =
    let range = c.new.ensures in
    head_told _ (limit_told most_bytes c.scratchpad.ensures (rw (range.start, range.end, range.exhausted) at c.contains.ensures.value) c.if-not-contains.true) refl

pub returns-then-not-contains-2 : goal.returns-then-not-contains-2
unfolding limits
returns-then-not-contains-2 c =
    let range = c.new.ensures in
    let range-2 = c.new-2.ensures in
    head_told _
    (limit_told most_bytes c.scratchpad.ensures (rw (range.start, range.end, range.exhausted) at c.contains.ensures.value) c.if-not-contains.false)
    (limit_told places.most_functions c.function_count.ensures (rw (range-2.start, range-2.end, range-2.exhausted) at c.contains-2.ensures.value) c.if-not-contains-2.true)

pub returns : goal.returns
unfolding limits
returns c =
    let range = c.new.ensures in
    let range-2 = c.new-2.ensures in
    head_told _
    (limit_told most_bytes c.scratchpad.ensures (rw (range.start, range.end, range.exhausted) at c.contains.ensures.value) c.if-not-contains.false)
    (limit_told places.most_functions c.function_count.ensures (rw (range-2.start, range-2.end, range-2.exhausted) at c.contains-2.ensures.value) c.if-not-contains-2.false)
