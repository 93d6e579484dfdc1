use native.Mathlib.Omega.{arith}
use Rattle.filled.proofs.Filling.{filling_more, filling_all, free_region}
use Rattle.filled.proofs.filled_in.Goals as goal

pub loop-f-init : goal.loop-f-init
loop-f-init c = c.keep_listed-used.ensures

pub loop-f-preserved : goal.loop-f-preserved
loop-f-preserved c =
    filling_more c.loop-f.invariant (omega (arith, c.requires)) (free_region c.loop-f.invariant c.lowest_free-free.ensures (omega (arith, c.min-listed.ensures))) _
    c.with_region-used.ensures

pub returns : goal.returns
returns c = filling_all c.loop-f.invariant (omega arith) c.requires
