-- `early::early_at` has the function of a vertex that is not flagged and that its word of first reach has.
use mathlib.Core.Path.{sym, ◌∙◌}
use native.Mathlib.Omega.{arith}
use Rattle.lookup.proofs.Places.{facts, vertex_small}
use Rattle.bits.proofs.Bits.{one_shl}
use Rattle.early.proofs.Words.{in_tables, flagged_word, fresh_word}
use Rattle.early.proofs.early_at.Goals as goal

pub bounds-flags-v : goal.bounds-flags-v
bounds-flags-v c = omega (arith, vertex_small _ (facts _ c.requires.fact_1) _ c.requires.fact_2)

pub returns-then-flags-v-eq1 : goal.returns-then-flags-v-eq1
returns-then-flags-v-eq1 c = flagged_word _ _ _ _ c.if-flags-v-eq1.true

pub function_of-f-requires-clause-fact_1 : goal.function_of-f-requires-clause-fact_1
function_of-f-requires-clause-fact_1 c = facts _ c.requires.fact_1

pub offset_bounds-fresh-v : goal.offset_bounds-fresh-v
offset_bounds-fresh-v c = omega (arith, in_tables _ c.requires.fact_1 _ c.requires.fact_2 _ c.function_of-f.ensures)

pub bounds-fresh-v : goal.bounds-fresh-v
bounds-fresh-v c = omega (arith, in_tables _ c.requires.fact_1 _ c.requires.fact_2 _ c.function_of-f.ensures)

pub has_bit-requires : goal.has_bit-requires
has_bit-requires c = omega (arith, in_tables _ c.requires.fact_1 _ c.requires.fact_2 _ c.function_of-f.ensures)

pub overflow_cast-result : goal.overflow_cast-result
overflow_cast-result c = omega (arith, in_tables _ c.requires.fact_1 _ c.requires.fact_2 _ c.function_of-f.ensures)

pub overflow_shl-result : goal.overflow_shl-result
overflow_shl-result c = (in_tables _ c.requires.fact_1 _ c.requires.fact_2 _ c.function_of-f.ensures).1

pub returns-then-has_bit : goal.returns-then-has_bit
returns-then-has_bit c =
    rw (one_shl _ (in_tables _ c.requires.fact_1 _ c.requires.fact_2 _ c.function_of-f.ensures).1) (fresh_word _ _ _ _ c.if-flags-v-eq1.false c.function_of-f.ensures (sym c.has_bit.ensures ∙ c.if-has_bit.true))

pub returns : goal.returns
returns c =
    fresh_word _ _ _ _ c.if-flags-v-eq1.false c.function_of-f.ensures (sym c.has_bit.ensures ∙ c.if-has_bit.false)
