use Rattle.lookup.proofs.Places.{loop_small}
use Rattle.edges.proofs.Words.{lacking}
use native.Mathlib.Omega.{arith}
use Rattle.model.specs.declared.Refusal.TheVariants.{NoEdgeBack}
use Rattle.model.proofs.Search.{start, miss, broken_hit, broken_none}
use Rattle.edges.proofs.judge_returns.Goals as goal

pub loop-j-init : goal.loop-j-init
loop-j-init c = start _ _

pub has_bit-requires : goal.has_bit-requires
has_bit-requires c = loop_small _ c.requires.fact_1 c.loop-j.j (omega arith)

pub returns-then-not-has_bit : goal.returns-then-not-has_bit
returns-then-not-has_bit c = broken_hit c.loop-j.invariant (omega arith) NoEdgeBack (lacking c.requires.fact_2 _ (omega arith) c.has_bit.ensures c.if-not-has_bit.true)

pub loop-j-preserved : goal.loop-j-preserved
loop-j-preserved c = miss c.loop-j.invariant (omega arith) (lacking c.requires.fact_2 _ (omega arith) c.has_bit.ensures c.if-not-has_bit.false)

pub returns : goal.returns
returns c = broken_none c.loop-j.invariant (omega arith) NoEdgeBack
