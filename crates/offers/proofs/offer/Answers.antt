-- `offers::offer` goes by whether the edge counts.
use native.Mathlib.Omega.{arith}
use Rattle.chains.proofs.Checks.{facts}
use Rattle.offers.proofs.Offers.{offered_not, offered_brought}
use Rattle.offers.proofs.offer.Goals as goal

pub edge_from-u-requires-clause-fact_1 : goal.edge_from-u-requires-clause-fact_1
edge_from-u-requires-clause-fact_1 c = facts c.requires.fact_2.checked

pub capped_sum-before-requires : goal.capped_sum-before-requires
capped_sum-before-requires c = (c.requires.fact_2.visits.most _, omega arith)

pub returns-then-counts : goal.returns-then-counts
returns-then-counts c =
    offered_brought _ _ _ _ _ _ _ c.requires.fact_5 c.edge_from-u.ensures c.counts.ensures c.if-counts.true
    c.leave.ensures c.capped_sum-before.ensures c.capped_sum.ensures

pub returns : goal.returns
returns c =
    offered_not _ _ _ _ _ _ _ c.requires.fact_5 c.edge_from-u.ensures c.counts.ensures c.if-counts.false
