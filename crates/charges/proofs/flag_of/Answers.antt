-- `charges::flag_of` gives 1 for a test that passes, and 0 for one that does not.
use mathlib.Core.Path.{◌≡◌, refl}
use mathlib.Core.Bool.{Bool, true, false, cond}
use mir.Val.{bool_byte}
use Rattle.charges.proofs.flag_of.Goals as goal

as_number : (set : Bool) → bool_byte set ≡ cond set 1 0
as_number true = refl
as_number false = refl

pub returns : goal.returns
returns c = as_number c.args.set
