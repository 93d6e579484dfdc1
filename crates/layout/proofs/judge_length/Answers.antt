-- `layout::judge_length` is its definition: 11.
use Rattle.model.specs.declared.Refusal.TheVariants.{LayoutTooLong}
use Rattle.layout.proofs.Judged.{below, not_below}
use Rattle.layout.proofs.judge_length.Goals as goal

pub returns-then-count-layout : goal.returns-then-count-layout
returns-then-count-layout c = below c.function_count-count.ensures LayoutTooLong c.if-count-layout.true

pub returns : goal.returns
returns c = not_below c.function_count-count.ensures LayoutTooLong c.if-count-layout.false
