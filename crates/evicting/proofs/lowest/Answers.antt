use native.Mathlib.Omega.{arith}
use Rattle.model.proofs.Cases.{all_done}
use Rattle.evicting.proofs.Naming.{lowest_none, lowest_more, lowest_all}
use Rattle.evicting.proofs.lowest.Goals as goal

pub loop-u-init : goal.loop-u-init
loop-u-init c = (omega arith, lowest_none _ _ _ _)

pub named-requires : goal.named-requires
named-requires c = record { fact_1 = c.requires; fact_2 = omega (arith, c.vertex_count-count.ensures, c.loop-u-test.true) }

pub loop-u-preserved : goal.loop-u-preserved
loop-u-preserved c =
    let (within, least) = c.loop-u.invariant in
    (omega (arith, c.loop-u-test.true), lowest_more _ _ _ _ _ _ _ least c.named.ensures _ (omega arith))

pub returns : goal.returns
returns c =
    let (within, least) = c.loop-u.invariant in
    lowest_all _ _ _ _ (all_done _ _ _ within c.loop-u-test.false c.vertex_count-count.ensures) least
