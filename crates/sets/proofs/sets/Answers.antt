-- `sets` clears the table and closes it: the members are those that walks show.
use mathlib.Core.Path.{refl}
use Rattle.model.specs.Numbers.{problem_of}
use Rattle.lookup.proofs.Places.{facts, few_functions}
use Rattle.sets.proofs.Flow.{set_begun, set-table}
use Rattle.sets.proofs.sets.Goals as goal

pub close-requires : goal.close-requires
close-requires c = record { checked = c.requires; starts = c.starts.ensures; long = refl; sound = set_begun (problem_of c.args.l.now) }

pub returns : goal.returns
returns c = set-table (problem_of c.args.l.now) _ (few_functions _ (facts _ c.requires)) c.close.ensures
