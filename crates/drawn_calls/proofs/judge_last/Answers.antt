use native.Mathlib.Omega.{arith}
use Rattle.model.specs.declared.Refusal.TheVariants.{LastCalls}
use Rattle.model.specs.Inlined.{judge_last}
use Rattle.model.proofs.Search.{miss, broken_hit, broken_none}
use Rattle.drawn_calls.proofs.Last.{last_told}
use Rattle.drawn_calls.proofs.judge_last.Goals as goal

pub returns-then-calls_some : goal.returns-then-calls_some
unfolding judge_last
returns-then-calls_some c =
    broken_hit c.loop-f.invariant (omega (arith, (c.function_count-count.ensures))) LastCalls
    (last_told _ _ c.vertex_count-last.ensures c.callee_at.ensures c.calls_some.ensures c.if-calls_some.true)

pub loop-f-preserved : goal.loop-f-preserved
loop-f-preserved c =
    miss c.loop-f.invariant (omega (arith, (c.function_count-count.ensures)))
    (last_told _ _ c.vertex_count-last.ensures c.callee_at.ensures c.calls_some.ensures c.if-calls_some.false)

pub returns : goal.returns
unfolding judge_last
returns c = broken_none c.loop-f.invariant (omega (arith, (c.function_count-count.ensures))) LastCalls
