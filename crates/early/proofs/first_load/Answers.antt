-- `early::first_load` is the load cost of a cold function.
use mathlib.Core.Path.{sym, ◌∙◌}
use Rattle.lookup.proofs.Places.{facts}
use Rattle.early.specs.Early.{first_load}
use Rattle.early.proofs.first_load.Goals as goal

pub load_of-requires-clause-fact_1 : goal.load_of-requires-clause-fact_1
load_of-requires-clause-fact_1 c = facts _ c.requires.fact_1

pub returns-then-has_bit : goal.returns-then-has_bit
unfolding first_load
returns-then-has_bit c = rw (sym c.has_bit.ensures ∙ c.if-has_bit.true) c.load_of.ensures

pub returns : goal.returns
unfolding first_load
returns c = rw (sym c.has_bit.ensures ∙ c.if-has_bit.false)
