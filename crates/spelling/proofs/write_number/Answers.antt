use mathlib.Core.Path.{◌∙◌}
use native.Mathlib.Omega.{arith}
use Rattle.spelling.proofs.Laws.{size_pos, write_start, write_turn, write_last}
use Rattle.spelling.proofs.write_number.Goals as goal

pub loop-pos-init : goal.loop-pos-init
loop-pos-init c = write_start _ _ _ _ (omega (arith, c.number_size.ensures, size_pos c.args.value))

pub loop-pos-preserved : goal.loop-pos-preserved
loop-pos-preserved c = write_turn _ _ _ _ c.loop-pos-test.true ∙ c.loop-pos.invariant

pub returns-clause-fact_2 : goal.returns-clause-fact_2
returns-clause-fact_2 c = write_last _ _ _ _ (omega (arith, c.number_size.ensures, size_pos c.args.value)) ∙ c.loop-pos.invariant
