-- `eviction_checked` meets Eviction's definition on checked numbers: the layout, the vertex, and the reason.
use mathlib.Core.Path.{refl, sym, ap, ◌∙◌}
use Rattle.std.proofs.lemmas.Result.{err_from_is_err_and}
use native.Mathlib.Omega.{arith}
use lib.Seq.{length-take-le}
use Rattle.model.specs.Layouts.{filled_in}
use Rattle.lookup.proofs.Places.{facts, few_functions}
use Rattle.through13.proofs.Through13.{refused_layout, through}
use Rattle.eviction.proofs.Stages.{not_begun, bad_vertex, explainable, explained}
use Rattle.eviction.proofs.eviction_checked.Goals as goal

both : {A B : Type 0} → A × B → record { eviction_says : A; eviction_fits : B }
both p = record { eviction_says = p.0; eviction_fits = p.1 }

pub filled_in-regions-requires : goal.filled_in-regions-requires
filled_in-regions-requires c = omega (arith, c.function_count-count.ensures, few_functions _ (facts _ c.requires))

pub slice_bounds-regions-end : goal.slice_bounds-regions-end
slice_bounds-regions-end c = c.filled_in-regions.ensures.room

pub slice_bounds-whole-end : goal.slice_bounds-whole-end
slice_bounds-whole-end c = sym (length-take-le _ _ c.filled_in-regions.ensures.room)

pub judge-requires : goal.judge-requires
judge-requires c = record { fact_1 = c.requires; fact_2 = (c.filled_in-regions.ensures.front ∙ ap (filled_in _) c.function_count-count.ensures) }

pub returns-in_err-judge : goal.returns-in_err-judge
returns-in_err-judge c =
    let p = err_from_is_err_and c.from_residual.result c.from_residual.ensures.1 in
    rw (p.1, p.2) (both (not_begun _ _ _ _ _ (refused_layout _ _ c.requires _ c.in_err-judge.ensures _ refl)))

pub returns-in_err-judge_vertex : goal.returns-in_err-judge_vertex
returns-in_err-judge_vertex c =
    let p = err_from_is_err_and c.from_residual-in_err-judge_vertex.result c.from_residual-in_err-judge_vertex.ensures.1 in
    rw (p.1, p.2) (both (bad_vertex _ _ _ (through _ _ c.requires _ c.in_ok-judge.ensures _ (c.filled_in-regions.ensures.front ∙ ap (filled_in _) c.function_count-count.ensures) _ refl).good _ c.in_err-judge_vertex.ensures _ _ refl))

pub explain-requires : goal.explain-requires
explain-requires c =
    let t = (through _ _ c.requires _ c.in_ok-judge.ensures _ (c.filled_in-regions.ensures.front ∙ ap (filled_in _) c.function_count-count.ensures) _ refl) in
    explainable _ _ _ c.requires t.regions_known _ c.in_ok-judge_vertex.ensures refl

pub returns : goal.returns
returns c =
    let t = (through _ _ c.requires _ c.in_ok-judge.ensures _ (c.filled_in-regions.ensures.front ∙ ap (filled_in _) c.function_count-count.ensures) _ refl) in both (explained _ _ _ t.good _ c.in_ok-judge_vertex.ensures refl _ t.same _ _ _ c.explain.ensures)
