use mathlib.Core.Path.{sym}
use native.Mathlib.Omega.{arith}
use Rattle.filled.proofs.Filled.{listed}
use Rattle.filled.proofs.Filling.{filling_none, filling_more, kept_all}
use Rattle.filled.proofs.keep_listed.Goals as goal

pub loop-f-init : goal.loop-f-init
loop-f-init c = filling_none _ _ c.requires.fact_2

pub loop-f-preserved : goal.loop-f-preserved
loop-f-preserved c =
    filling_more c.loop-f.invariant (omega (arith, c.requires.fact_1.1)) (sym (listed _ _ (omega (arith, c.requires.fact_1.0)))) _ c.with_region-used.ensures

pub returns : goal.returns
returns c = kept_all (omega arith) (omega arith) c.loop-f.invariant
