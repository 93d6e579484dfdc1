-- `put_file` ends Write, whichever problem the numbers are of: the buffer's room, the file.
use Rattle.file.proofs.Stages.{too_short, fits, written}
use Rattle.file.proofs.put_file.Goals as goal

pub returns-then-buf-need : goal.returns-then-buf-need
returns-then-buf-need c = too_short _ _ _ c.requires c.if-buf-need.true

pub write_fields-written-requires : goal.write_fields-written-requires
write_fields-written-requires c = fits _ _ _ c.requires c.if-buf-need.false

pub returns : goal.returns
returns c =
    written _ _ _ c.requires c.if-buf-need.false _ _ c.write_fields-written.ensures.fact_1 c.write_fields-written.ensures.fact_2
