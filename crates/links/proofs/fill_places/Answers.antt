-- `fill_places` places row after row.
use Rattle.links.proofs.Spots.{all_placed, none_placed, next_placed}
use Rattle.links.proofs.fill_places.Goals as goal

pub loop-i-init : goal.loop-i-init
loop-i-init c = rw c.requires.fact_3 (none_placed _)

pub loop-i-preserved : goal.loop-i-preserved
loop-i-preserved c = next_placed _ c.requires.fact_1 _ _ c.loop-i-test.true c.loop-i.invariant

pub returns : goal.returns
returns c = all_placed _ _ _ c.loop-i-test.false c.loop-i.invariant
