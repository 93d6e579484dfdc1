-- `layout::judge_need` is its definition: 13.
use Rattle.model.specs.declared.Refusal.TheVariants.{ScratchpadTooSmall}
use Rattle.layout.proofs.Judged.{below, not_below}
use Rattle.layout.proofs.judge_need.Goals as goal

pub returns-then-scratchpad-needed : goal.returns-then-scratchpad-needed
returns-then-scratchpad-needed c = below c.scratchpad.ensures (λ _. ScratchpadTooSmall c.args.needed.0) c.if-scratchpad-needed.true

pub returns : goal.returns
returns c = not_below c.scratchpad.ensures (λ _. ScratchpadTooSmall c.args.needed.0) c.if-scratchpad-needed.false
