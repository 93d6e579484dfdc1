-- `interference_checked` meets Interference's definition on checked numbers: the room for the words, the sets.
use native.Mathlib.Omega.{arith}
use Rattle.interference.proofs.Answers.{counts_small, product_small, too_few, filled}
use Rattle.interference.proofs.interference_checked.Goals as goal

pub overflow_mul-need : goal.overflow_mul-need
overflow_mul-need c = omega (arith, product_small _ (c.requires) _ _ c.vertex_count-vertices.ensures c.function_count-count.ensures)

pub returns-then-words-need : goal.returns-then-words-need
returns-then-words-need c = too_few _ (c.requires) _ _ c.vertex_count-vertices.ensures c.function_count-count.ensures _ c.if-words-need.true

pub copy_out-requires : goal.copy_out-requires
copy_out-requires c =
    record { fact_1 = counts_small _ (c.requires) _ _ c.vertex_count-vertices.ensures c.function_count-count.ensures; fact_2 = c.if-words-need.false }

pub returns : goal.returns
returns c =
    filled _ (c.requires) _ _ c.vertex_count-vertices.ensures c.function_count-count.ensures _ c.if-words-need.false _ _
    c.sets.ensures c.copy_out.ensures
