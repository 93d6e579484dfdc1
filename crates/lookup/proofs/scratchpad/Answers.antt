-- `lookup::scratchpad` reads the place of the scratchpad size.
use mathlib.Core.Path.{sym}
use Rattle.lookup.proofs.Places.{scratchpad_at}
use Rattle.lookup.proofs.scratchpad.Goals as goal

pub returns : goal.returns
returns c = sym (scratchpad_at _)
