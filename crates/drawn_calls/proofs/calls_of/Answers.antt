use Prim.Native.Nat.{ℕ}
use mathlib.Core.Path.{sym, ap, ◌∙◌}
use mathlib.Core.Bool.{◌||◌}
use native.Mathlib.Omega.{arith}
use Rattle.model.specs.Drawings.{called_by}
use Rattle.model.specs.Inlined.{calls_the}
use Rattle.bits.specs.Tests.{has}
use Rattle.model.specs.Drawings.{callee_of}
use Rattle.drawn_calls.proofs.Calls.{called_none, called_more, called_all}
use Rattle.drawn_calls.proofs.calls_of.Goals as goal

pub loop-v-init : goal.loop-v-init
loop-v-init c = called_none _ _

pub with_callee-word-requires : goal.with_callee-word-requires
unfolding called_by
with_callee-word-requires c =
    λ g e. let known = (c.requires.fact_1.drawn _ c.requires.fact_2).known c.loop-v.v g (omega (arith, (c.vertex_count-count.ensures))) (ap callee_of (sym c.callee_at.ensures) ∙ e) in omega (arith, known, c.requires.fact_1.functions)

pub loop-v-preserved : goal.loop-v-preserved
unfolding called_by
loop-v-preserved c =
    called_more _ _ _ _ _ (omega (arith, (c.vertex_count-count.ensures))) c.loop-v.invariant
    (λ g. c.with_callee-word.ensures g ∙ ap (λ (n : ℕ). has c.loop-v.word g || calls_the (callee_of n) g) c.callee_at.ensures)

pub returns : goal.returns
returns c = called_all _ _ _ _ (omega (arith, (c.vertex_count-count.ensures))) c.loop-v.invariant
