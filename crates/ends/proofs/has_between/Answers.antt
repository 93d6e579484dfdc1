-- `has_between` shifts out the bits from `to` on and those below `from`.
use Rattle.ends.proofs.Between.{shifted_out, empty_between}
use Rattle.ends.proofs.has_between.Goals as goal

pub returns-then-to-from : goal.returns-then-to-from
returns-then-to-from c = empty_between _ _ _ c.if-to-from.true

pub returns : goal.returns
returns c = shifted_out _ _ _ c.if-to-from.false c.requires
