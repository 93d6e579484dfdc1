-- `offers::counts` goes by the kind of origin.
use mathlib.Core.Path.{sym, ap, ◌∙◌}
use mathlib.Core.Bool.{not}
use Rattle.offers.specs.declared.Origin.{Origin}
use Rattle.offers.specs.Offers.{comes}
use Rattle.offers.proofs.counts.Goals as goal

pub returns-in-Outside : goal.returns-in-Outside
returns-in-Outside c = ap not c.range_holds.ensures ∙ ap (λ (o : Origin). comes o c.args.u) (sym c.in-Outside.is)

pub returns-in-Inside : goal.returns-in-Inside
returns-in-Inside c = c.range_holds-in-Inside.ensures ∙ ap (λ (o : Origin). comes o c.args.u) (sym c.in-Inside.is)
