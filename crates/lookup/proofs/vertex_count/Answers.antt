-- `lookup::vertex_count` reads the place of the count.
use mathlib.Core.Path.{refl}
use Rattle.model.specs.Numbers.{problem_of}
use Rattle.lookup.proofs.vertex_count.Goals as goal

pub returns : goal.returns
unfolding problem_of
returns c = refl
