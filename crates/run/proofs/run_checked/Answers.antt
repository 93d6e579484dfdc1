-- `run_checked` meets Run's definition on checked numbers: the layout, the walk's length, its entries, and the run.
use mathlib.Core.Path.{refl, sym, ap, ◌∙◌}
use Rattle.std.proofs.lemmas.Result.{err_from_is_err_and}
use native.Mathlib.Omega.{arith}
use lib.Seq.{length-take-le}
use Rattle.model.specs.Layouts.{filled_in}
use Rattle.lookup.proofs.Places.{facts, few_functions}
use Rattle.through13.proofs.Through13.{refused_layout, through}
use Rattle.run.proofs.Stages.{not_begun, too_long_lem, bad_entry, runnable, ran, ran_alike}
use Rattle.run.proofs.run_checked.Goals as goal

both : {A B : Type 0} → A × B → record { value : A; held_after : B }
both p = record { value = p.0; held_after = p.1 }

pub filled_in-regions-requires : goal.filled_in-regions-requires
filled_in-regions-requires c = omega (arith, c.function_count-count.ensures, few_functions _ (facts _ c.requires))

pub slice_bounds-regions-end : goal.slice_bounds-regions-end
slice_bounds-regions-end c = c.filled_in-regions.ensures.room

pub slice_bounds-whole-end : goal.slice_bounds-whole-end
slice_bounds-whole-end c = sym (length-take-le _ _ c.filled_in-regions.ensures.room)

pub judge-requires : goal.judge-requires
judge-requires c = record { fact_1 = c.requires; fact_2 = (c.filled_in-regions.ensures.front ∙ ap (filled_in _) c.function_count-count.ensures) }

pub returns-in_err-judge : goal.returns-in_err-judge
returns-in_err-judge c =
    let p = err_from_is_err_and c.from_residual.result c.from_residual.ensures.1 in
    rw (p.1, p.2) (both (not_begun _ _ _ _ _ (refused_layout _ _ c.requires _ c.in_err-judge.ensures _ refl)))

pub returns-then-walk-gt-WALK_LIMIT : goal.returns-then-walk-gt-WALK_LIMIT
returns-then-walk-gt-WALK_LIMIT c = both (too_long_lem _ _ _ _ (through _ _ c.requires _ c.in_ok-judge.ensures _ (c.filled_in-regions.ensures.front ∙ ap (filled_in _) c.function_count-count.ensures) _ refl).good c.if-walk-gt-WALK_LIMIT.true)

pub returns-in_err-judge-2 : goal.returns-in_err-judge-2
returns-in_err-judge-2 c =
    let p = err_from_is_err_and c.from_residual-in_err-judge-2.result c.from_residual-in_err-judge-2.ensures.1 in
    rw (p.1, p.2) (both (bad_entry _ _ _ _ (through _ _ c.requires _ c.in_ok-judge.ensures _ (c.filled_in-regions.ensures.front ∙ ap (filled_in _) c.function_count-count.ensures) _ refl).good c.if-walk-gt-WALK_LIMIT.false _ c.in_err-judge-2.ensures _ refl))

pub simulate-run-requires : goal.simulate-run-requires
simulate-run-requires c =
    runnable _ _ _ c.requires (through _ _ c.requires _ c.in_ok-judge.ensures _ (c.filled_in-regions.ensures.front ∙ ap (filled_in _) c.function_count-count.ensures) _ refl).regions_known c.if-walk-gt-WALK_LIMIT.false _ c.in_ok-judge-2.ensures refl

pub returns : goal.returns
returns c =
    let t = (through _ _ c.requires _ c.in_ok-judge.ensures _ (c.filled_in-regions.ensures.front ∙ ap (filled_in _) c.function_count-count.ensures) _ refl) in both (ran _ _ _ _ t.good c.if-walk-gt-WALK_LIMIT.false _ c.in_ok-judge-2.ensures refl _ _
    (ran_alike _ _ _ _ _ _ t.same c.simulate-run.ensures))
