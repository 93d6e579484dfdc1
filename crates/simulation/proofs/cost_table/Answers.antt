use Prim.Native.Nat.{◌+◌}
use mathlib.Core.Path.{ap, ap₂, ◌∙◌}
use native.Mathlib.Omega.{arith}
use Rattle.model.specs.Numbers.{problem_of}
use Rattle.model.specs.Costs.{load_cost, check_cost}
use Rattle.lookup.proofs.Places.{facts, few_vertices}
use Rattle.simulation.proofs.Costs.{no_costs, next_costs, all_costs}
use borrow.Author.Rules.{rules}
use Rattle.simulation.proofs.cost_table.Goals as goal

pub loop-v-init : goal.loop-v-init
loop-v-init c = (omega (arith, few_vertices _ (facts _ c.requires)), no_costs _ _ _)

pub own_cost-own-requires-clause-fact_1 : goal.own_cost-own-requires-clause-fact_1
own_cost-own-requires-clause-fact_1 c = facts _ c.requires

pub function_of-f-requires-clause-fact_1 : goal.function_of-f-requires-clause-fact_1
function_of-f-requires-clause-fact_1 c = facts _ c.requires

pub load_of-load-requires-clause-fact_1 : goal.load_of-load-requires-clause-fact_1
load_of-load-requires-clause-fact_1 c = facts _ c.requires

pub check_of-check-requires-clause-fact_1 : goal.check_of-check-requires-clause-fact_1
check_of-check-requires-clause-fact_1 c = facts _ c.requires

pub loop-v-preserved : goal.loop-v-preserved
loop-v-preserved c =
    let p = problem_of c.args.l.now in
    let own = c.own_cost-own.ensures in
    let load = c.load_of-load.ensures ∙ ap (load_cost p) c.function_of-f.ensures in
    let check = c.check_of-check.ensures ∙ ap (check_cost p) c.function_of-f.ensures in
    let with-check = c.add-checked.ensures ∙ ap₂ ◌+◌ own check in (
      search rules,
      next_costs _ _ _ _ _ _ _ _ (omega arith) own (c.add-loaded.ensures ∙ ap₂ ◌+◌ own load) with-check
          (c.add-both.ensures ∙ ap₂ ◌+◌ with-check load) _ c.loop-v.invariant.1,
    )

pub returns : goal.returns
returns c = all_costs _ _ _ _ _ _ (omega arith) c.loop-v.invariant.1
