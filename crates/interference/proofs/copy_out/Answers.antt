use mathlib.Core.Path.{refl}
use native.Mathlib.Omega.{arith}
use Rattle.model.proofs.Cases.{all_done}
use Rattle.interference.proofs.Copies.{row_fits, few_words, no_row, one_row}
use Rattle.interference.proofs.copy_out.Goals as goal

pub loop-v-init : goal.loop-v-init
loop-v-init c = no_row _ _ _

pub overflow_mul-v : goal.overflow_mul-v
overflow_mul-v c = omega (arith, few_words c.loop-v.v c.args.count (omega arith) c.requires.fact_1.1)

pub copy_row-requires-clause-fact_2 : goal.copy_row-requires-clause-fact_2
copy_row-requires-clause-fact_2 c = row_fits _ _ c.args.count _ c.loop-v-test.true (omega (arith, c.loop-v.invariant.long))

pub loop-v-preserved : goal.loop-v-preserved
loop-v-preserved c = one_row _ _ _ c.loop-v.invariant c.copy_row.ensures

pub returns : goal.returns
returns c = rw (all_done _ _ _ (omega arith) c.loop-v-test.false refl) at c.loop-v.invariant
