use mathlib.Core.Path.{refl}
use native.Mathlib.Omega.{arith}
use Rattle.interference.proofs.Copies.{row_copied}
use Rattle.interference.proofs.copy_row.Goals as goal

pub returns : goal.returns
returns c = row_copied _ _ _ _ _ _ refl (omega arith) c.requires.fact_2 c.copy_from_slice.ensures.after
