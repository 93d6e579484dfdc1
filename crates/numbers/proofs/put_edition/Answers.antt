-- `put_edition` meets its contract: what `edition_of` answers is stored.
use mathlib.Core.Path.{ap}
use lib.ListN.{set}
use Rattle.model.specs.Places as places
use Rattle.numbers.proofs.put_edition.Goals as goal

pub returns : goal.returns
returns c = ap (set c.args.l.now places.edition) c.edition_of-edition.ensures
