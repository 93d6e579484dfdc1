use native.Mathlib.Omega.{arith}
use Rattle.early.proofs.Words.{none_gathered, one_gathered, gathered_to}
use Rattle.early.proofs.functions_in.Goals as goal

pub loop-v-init : goal.loop-v-init
loop-v-init c = none_gathered _ _

pub loop-v-preserved : goal.loop-v-preserved
loop-v-preserved c =
    one_gathered _ _ c.loop-v.invariant (omega arith)

pub returns : goal.returns
returns c =
    gathered_to _ _ (omega (arith, c.loop-v.auto.v-end, c.requires.fact_1)) c.loop-v.invariant
