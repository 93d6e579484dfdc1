use native.Mathlib.Omega.{arith}
use Rattle.lookup.proofs.Places.{facts, few_vertices}
use Rattle.charges.proofs.Filling.{tally_start, tally_more, tally_small, tally_end}
use Rattle.charges.proofs.mark_contested.Goals as goal

pub loop-v-init : goal.loop-v-init
loop-v-init c = tally_start _ _ (few_vertices _ (facts _ c.requires.fact_1)) c.requires.fact_2

pub bounds-flags-v : goal.bounds-flags-v
bounds-flags-v c = omega (arith, c.loop-v.invariant.room)

pub overflow_cast-tally : goal.overflow_cast-tally
overflow_cast-tally c = omega (arith, tally_small (tally_more c.loop-v.invariant (omega arith) c.is_contested.ensures c.flag_of-flag.ensures))

pub overflow_add-tally : goal.overflow_add-tally
overflow_add-tally c = omega (arith, tally_small (tally_more c.loop-v.invariant (omega arith) c.is_contested.ensures c.flag_of-flag.ensures))

pub loop-v-preserved : goal.loop-v-preserved
loop-v-preserved c = tally_more c.loop-v.invariant (omega arith) c.is_contested.ensures c.flag_of-flag.ensures

pub returns : goal.returns
returns c = tally_end c.loop-v.invariant (omega arith)
