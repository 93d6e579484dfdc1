-- `price` gives Bound's result, or 14, from the tables that it fills.
use mathlib.Core.Path.{sym, subst}
use native.Mathlib.Omega.{arith}
use Rattle.model.specs.Numbers.{problem_of}
use Rattle.lookup.proofs.Places.{facts, few_vertices}
use Rattle.chains.specs.Chains.{Chained}
use Rattle.charges.proofs.Flags.{flags_low}
use Rattle.early.proofs.Words.{early_apart, gathered_to}
use Rattle.bound.specs.Priced.{Priced}
use Rattle.bound.proofs.Prices.{Computed, greatest_most, priced}
use Rattle.bound.proofs.price.Goals as goal

pub may_hold-requires : goal.may_hold-requires
may_hold-requires c = record { fact_1 = c.requires.fact_1; fact_2 = c.starts-begins.ensures }

pub first_reach-requires : goal.first_reach-requires
first_reach-requires c = record { fact_1 = c.requires.fact_1; fact_2 = c.starts-begins.ensures }

pub entered_flags-entered-requires : goal.entered_flags-entered-requires
entered_flags-entered-requires c = c.requires.fact_1

pub functions_in-cold-requires : goal.functions_in-cold-requires
functions_in-cold-requires c = record { fact_1 = omega arith; fact_2 = omega (arith, c.vertex_count.ensures, few_vertices _ (facts _ c.requires.fact_1)) }

pub first_loads-first-requires : goal.first_loads-first-requires
first_loads-first-requires c = c.requires.fact_1

pub edge_chains-edges-requires : goal.edge_chains-edges-requires
edge_chains-edges-requires c = c.requires.fact_1

pub loop_chains-loops-requires : goal.loop_chains-loops-requires
loop_chains-loops-requires c = c.requires.fact_1

pub greatest_charges-greatest-requires : goal.greatest_charges-greatest-requires
greatest_charges-greatest-requires c =
    record { checked_1 = c.requires.fact_1; checked_2 = c.entered_flags-entered.ensures; flags_1 = flags_low c.mark_contested-contested.ensures.told; flags_2 = (let chained : Chained c.args.l.now c.edge_chains-edges.result c.loop_chains-loops.result = record { into = c.edge_chains-edges.ensures; out = c.loop_chains-loops.ensures } in chained) }

pub greatest_second-second-requires : goal.greatest_second-second-requires
greatest_second-second-requires c =
    record { checked_1 = c.requires.fact_1; checked_2 = c.entered_flags-entered.ensures; checked_3 = flags_low c.mark_contested-contested.ensures.told; chained_1 = (let chained : Chained c.args.l.now c.edge_chains-edges.result c.loop_chains-loops.result = record { into = c.edge_chains-edges.ensures; out = c.loop_chains-loops.ensures } in chained); chained_2 = early_apart _ c.early_words-early.ensures }

pub answer_of-requires : goal.answer_of-requires
answer_of-requires c =
    record { fact_1 = omega (arith, c.greatest_charges-greatest.ensures.most, c.first_loads-first.ensures.small); fact_2 = greatest_most (let computed : Computed c.args.l.now c.args.layout.now c.mark_contested-contested.result c.first_loads-first.result c.greatest_charges-greatest.result c.greatest_second-second.result = record { checked = c.requires.fact_1; rivals = _; held = _; fresh = _; flags = _; words = _; coldest = _; is_rivals = c.fill_rivals.ensures; is_held = c.may_hold.ensures; is_fresh = c.first_reach.ensures; tallied = c.mark_contested-contested.ensures; is_early = c.early_words-early.ensures; is_cold = gathered_to _ _ c.vertex_count.ensures c.functions_in-cold.ensures; loaded = c.first_loads-first.ensures; greatest_is_lem = c.greatest_charges-greatest.ensures; second_is = c.greatest_second-second.ensures } in computed) }

pub returns : goal.returns
returns c =
    subst (Priced (problem_of c.args.l.now) c.args.layout.now) (sym c.answer_of.ensures) (priced (let computed : Computed c.args.l.now c.args.layout.now c.mark_contested-contested.result c.first_loads-first.result c.greatest_charges-greatest.result c.greatest_second-second.result = record { checked = c.requires.fact_1; rivals = _; held = _; fresh = _; flags = _; words = _; coldest = _; is_rivals = c.fill_rivals.ensures; is_held = c.may_hold.ensures; is_fresh = c.first_reach.ensures; tallied = c.mark_contested-contested.ensures; is_early = c.early_words-early.ensures; is_cold = gathered_to _ _ c.vertex_count.ensures c.functions_in-cold.ensures; loaded = c.first_loads-first.ensures; greatest_is_lem = c.greatest_charges-greatest.ensures; second_is = c.greatest_second-second.ensures } in computed) _ c.requires.fact_2)
