-- `edges::judge_words` is its definition: rule 9 on the good case of rule 8, each told by the words.
use mathlib.Core.Path.{refl, sym, ◌∙◌}
use Rattle.std.proofs.lemmas.Result.{err_from_is_err_and}
use native.Mathlib.Omega.{arith}
use Rattle.lookup.proofs.Places.{few_vertices, from_below, to_below}
use Rattle.ranges.proofs.Listed.{loops_ranged}
use Rattle.edges.proofs.Rules.{stops, goes}
use Rattle.edges.proofs.Words.{headed_is, around_is, told_returned, wrong_says, returns_say}
use Rattle.edges.proofs.judge_words.Goals as goal

pub around_of-around-requires : goal.around_of-around-requires
around_of-around-requires c = omega (arith, c.vertex_count.ensures, few_vertices _ c.requires.fact_1)

pub judge_edges-requires : goal.judge_edges-requires
judge_edges-requires c = record { fact_1 = c.requires.fact_1; fact_2 = (around_is (loops_ranged _ c.requires.fact_1) (few_vertices _ c.requires.fact_1) c.requires.fact_2 (rw c.vertex_count.ensures at c.around_of-around.ensures)); fact_3 = headed_is (loops_ranged _ c.requires.fact_1) (few_vertices _ c.requires.fact_1) c.requires.fact_2 }

pub judge_returns-requires-clause-fact_2 : goal.judge_returns-requires-clause-fact_2
judge_returns-requires-clause-fact_2 c =
    let ok = c.requires.fact_1 in
    told_returned _ (around_is (loops_ranged _ ok) (few_vertices _ ok) c.requires.fact_2 (rw c.vertex_count.ensures at c.around_of-around.ensures)) (headed_is (loops_ranged _ ok) (few_vertices _ ok) c.requires.fact_2) (from_below _ ok) (to_below _ ok)
    (returns_say _ _ _ _ c.in_ok-returned.ensures).1

pub returns-in_err-returned : goal.returns-in_err-returned
returns-in_err-returned c =
    let p = err_from_is_err_and c.from_residual.result c.from_residual.ensures.1 in rw (p.1, p.2) (stops _ (wrong_says _ _ _ _ c.in_err-returned.ensures) refl)

pub returns : goal.returns
returns c = c.judge_returns.ensures ∙ goes _ (returns_say _ _ _ _ c.in_ok-returned.ensures).0 refl
