use mathlib.Core.Path.{ap, ◌∙◌}
use native.Mathlib.Omega.{arith}
use Rattle.model.specs.Layouts.{region_of}
use Rattle.lookup.proofs.Places.{facts, few_vertices}
use Rattle.simulation.proofs.Pairs.{no_pairs, next_pair, all_pairs}
use borrow.Author.Rules.{rules}
use Rattle.simulation.proofs.place_table.Goals as goal

pub loop-v-init : goal.loop-v-init
loop-v-init c = (omega (arith, few_vertices _ (facts _ c.requires.fact_1)), no_pairs _ _)

pub function_of-f-requires-clause-fact_1 : goal.function_of-f-requires-clause-fact_1
function_of-f-requires-clause-fact_1 c = facts _ c.requires.fact_1

pub loop-v-preserved : goal.loop-v-preserved
loop-v-preserved c =
    let layout = c.args.layout.now in
    let function = c.function_of-f.ensures in
    (search rules, next_pair _ _ _ _ _ (omega arith) function (c.region_of.ensures ∙ ap (region_of layout) function) _ c.loop-v.invariant.1)

pub returns : goal.returns
returns c = all_pairs _ _ _ _ _ (omega arith) c.loop-v.invariant.1
