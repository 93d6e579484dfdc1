use native.Mathlib.Omega.{arith}
use Rattle.model.specs.declared.Refusal.TheVariants.{MissingEdge}
use Rattle.model.proofs.Search.{start, miss, broken_hit, broken_none}
use Rattle.lookup.proofs.Places.{few_vertices}
use Rattle.entries.proofs.Marks.{none_marked, lacks_told}
use Rattle.entries.proofs.judge_vertices.Goals as goal

pub mark_ends-requires : goal.mark_ends-requires
mark_ends-requires c = record { fact_1 = c.requires; fact_2 = none_marked _ }

pub loop-v-init : goal.loop-v-init
loop-v-init c = start _ _

pub returns-then-lacks_edge : goal.returns-then-lacks_edge
returns-then-lacks_edge c = broken_hit c.loop-v.invariant (omega arith) MissingEdge (lacks_told c.mark_ends.ensures _ (omega (arith, few_vertices _ c.requires)) c.vertex_count-count.ensures c.lacks_edge.ensures c.if-lacks_edge.true)

pub loop-v-preserved : goal.loop-v-preserved
loop-v-preserved c = miss c.loop-v.invariant (omega arith) (lacks_told c.mark_ends.ensures _ (omega (arith, few_vertices _ c.requires)) c.vertex_count-count.ensures c.lacks_edge.ensures c.if-lacks_edge.false)

pub returns : goal.returns
returns c = broken_none c.loop-v.invariant (omega arith) MissingEdge
