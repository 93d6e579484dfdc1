-- What `mark` prints where Read refuses is the slip of the file and any layout.
use mathlib.Core.Path.{refl}
use Rattle.sheet.proofs.Slips.{refused_rendered}
use Rattle.sheet.proofs.mark.Goals as goal

pub print-requires : goal.print-requires
print-requires g c = refused_rendered c.in-Err.refusal c.in-Err.ensures refl c.refused-size.ensures
