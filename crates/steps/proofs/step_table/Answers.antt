use native.Mathlib.Omega.{arith}
use Rattle.lookup.proofs.Places.{facts}
use Rattle.steps.proofs.Steps.{start_marked, mark_inside, edge_marked, all_marked}
use borrow.Author.Rules.{rules}
use Rattle.steps.proofs.step_table.Goals as goal

pub edge_count-count-requires : goal.edge_count-count-requires
edge_count-count-requires c = facts _ c.requires

pub loop-i-init : goal.loop-i-init
loop-i-init c = (search rules, start_marked _)

pub edge_from-from-requires-clause-fact_1 : goal.edge_from-from-requires-clause-fact_1
edge_from-from-requires-clause-fact_1 c = facts _ c.requires

pub edge_to-to-requires-clause-fact_1 : goal.edge_to-to-requires-clause-fact_1
edge_to-to-requires-clause-fact_1 c = facts _ c.requires

pub overflow_mul-table : goal.overflow_mul-table
overflow_mul-table c = omega (arith, (mark_inside _ c.requires c.loop-i.i _ _ _ (omega arith) c.edge_from-from.ensures c.edge_to-to.ensures c.step_along.ensures))

pub overflow_add-table : goal.overflow_add-table
overflow_add-table c = omega (arith, (mark_inside _ c.requires c.loop-i.i _ _ _ (omega arith) c.edge_from-from.ensures c.edge_to-to.ensures c.step_along.ensures))

pub bounds-table-from : goal.bounds-table-from
bounds-table-from c = omega (arith, (mark_inside _ c.requires c.loop-i.i _ _ _ (omega arith) c.edge_from-from.ensures c.edge_to-to.ensures c.step_along.ensures))

pub loop-i-preserved : goal.loop-i-preserved
loop-i-preserved c = (
  search rules,
  edge_marked _ c.requires c.loop-i.i _ _ _ (omega arith) c.edge_from-from.ensures c.edge_to-to.ensures c.step_along.ensures _ c.loop-i.invariant.1,
)

pub returns : goal.returns
returns c =
    all_marked _ c.requires _ _ c.loop-i.invariant.0 (omega arith) c.loop-i.invariant.1
