-- `held::may_hold` closes a cleared table: the members are those that walks show.
use mathlib.Core.Path.{refl}
use Rattle.held.proofs.Flow.{held_begun, held_table}
use Rattle.held.proofs.may_hold.Goals as goal

pub close-requires : goal.close-requires
close-requires c = record { checked = c.requires.fact_1; starts = c.requires.fact_2; long = refl; sound = held_begun _ c.requires.fact_1 _ }

pub returns : goal.returns
returns c = held_table _ c.requires.fact_1 _ _ c.close.ensures
