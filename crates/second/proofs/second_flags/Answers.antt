use mathlib.Core.Path.{refl}
use native.Mathlib.Omega.{arith}
use Rattle.chains.proofs.Checks.{few_vertices_in}
use Rattle.charges.proofs.Filling.{fill_start, fill_more}
use Rattle.second.proofs.second_flags.Goals as goal

pub loop-v-init : goal.loop-v-init
loop-v-init c = (omega arith, fill_start refl)

pub loop-v-preserved : goal.loop-v-preserved
loop-v-preserved c =
    (omega arith, fill_more c.loop-v.invariant.1 (omega (arith, c.vertex_count-count.ensures, few_vertices_in _ c.requires)) c.second_flag.ensures)

pub returns : goal.returns
returns c =
    record { flag = λ v below. c.loop-v.invariant.1.item v (omega (arith, c.loop-v-test.false, c.vertex_count-count.ensures)) }
