-- `lookup::function_count` reads the place of the count.
use mathlib.Core.Path.{sym}
use Rattle.lookup.proofs.Places.{function_count_lem}
use Rattle.lookup.proofs.function_count.Goals as goal

pub returns : goal.returns
returns c = sym (function_count_lem _)
