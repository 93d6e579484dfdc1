-- What `mark_layout` prints is the slip of the file and the layout.
use Rattle.sheet.proofs.Slips.{bounded_rendered}
use Rattle.sheet.proofs.mark_layout.Goals as goal

pub print-requires : goal.print-requires
print-requires g c = bounded_rendered c.bound-answer.result c.requires c.bound-answer.ensures c.bounded-size.ensures
