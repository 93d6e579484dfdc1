use native.Mathlib.Omega.{arith}
use Rattle.lookup.proofs.Places.{facts, few_loops}
use Rattle.walk.proofs.Bounds.{none_entered, header_inside, loop_entered, all_entered}
use borrow.Author.Rules.{rules}
use Rattle.walk.proofs.bound_table.Goals as goal

pub loop_count-count-requires : goal.loop_count-count-requires
loop_count-count-requires c = facts _ c.requires

pub loop-i-init : goal.loop-i-init
loop-i-init c = (omega (arith, few_loops _ (facts _ c.requires)), none_entered _)

pub loop_header-header-requires-clause-fact_1 : goal.loop_header-header-requires-clause-fact_1
loop_header-header-requires-clause-fact_1 c = facts _ c.requires

pub loop_bound-requires-clause-fact_1 : goal.loop_bound-requires-clause-fact_1
loop_bound-requires-clause-fact_1 c = facts _ c.requires

pub offset_bounds-table-header : goal.offset_bounds-table-header
offset_bounds-table-header c = omega (arith, (header_inside _ c.requires c.loop-i.i _ (omega arith) c.loop_header-header.ensures))

pub bounds-table-header : goal.bounds-table-header
bounds-table-header c = (header_inside _ c.requires c.loop-i.i _ (omega arith) c.loop_header-header.ensures)

pub loop-i-preserved : goal.loop-i-preserved
loop-i-preserved c =
    (search rules, loop_entered _ c.requires _ _ (omega arith) c.loop_header-header.ensures _ c.loop_bound.ensures _ c.loop-i.invariant.1)

pub returns : goal.returns
returns c = all_entered _ _ _ (omega arith) c.loop-i.invariant.1
