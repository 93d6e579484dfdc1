-- `has_bit` tests a bit by a shift.
use mathlib.Core.Path.{refl}
use Rattle.bits.specs.Tests.{has}
use Rattle.bits.proofs.has_bit.Goals as goal

pub returns : goal.returns
unfolding has
returns c = refl
