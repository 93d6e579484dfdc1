-- `bound_checked` meets Bound's definition on checked numbers: the layout, and its price.
use mathlib.Core.Path.{refl, sym, ap, ◌∙◌}
use Rattle.std.proofs.lemmas.Result.{err_from_is_err_and}
use native.Mathlib.Omega.{arith}
use lib.Seq.{length-take-le}
use Rattle.model.specs.Layouts.{filled_in}
use Rattle.lookup.proofs.Places.{facts, few_functions}
use Rattle.through13.proofs.Through13.{refused_layout, through}
use Rattle.bound.proofs.Stages.{refused_says, priced_alike, priced_says}
use Rattle.bound.proofs.bound_checked.Goals as goal

pub filled_in-regions-requires : goal.filled_in-regions-requires
filled_in-regions-requires c = omega (arith, c.function_count-count.ensures, few_functions _ (facts _ c.requires))

pub slice_bounds-regions-end : goal.slice_bounds-regions-end
slice_bounds-regions-end c = c.filled_in-regions.ensures.room

pub slice_bounds-whole-end : goal.slice_bounds-whole-end
slice_bounds-whole-end c = sym (length-take-le _ _ c.filled_in-regions.ensures.room)

pub judge-requires : goal.judge-requires
judge-requires c = record { fact_1 = c.requires; fact_2 = (c.filled_in-regions.ensures.front ∙ ap (filled_in _) c.function_count-count.ensures) }

pub returns-in_err-need : goal.returns-in_err-need
returns-in_err-need c =
    let p = err_from_is_err_and c.from_residual.result c.from_residual.ensures.1 in
    rw (p.1, p.2) (refused_says _ _ _ (refused_layout _ _ c.requires _ c.in_err-need.ensures _ refl))

pub price-requires : goal.price-requires
price-requires c = let t = (through _ _ c.requires _ c.in_ok-need.ensures _ (c.filled_in-regions.ensures.front ∙ ap (filled_in _) c.function_count-count.ensures) _ refl) in record { fact_1 = c.requires; fact_2 = t.need_is; fact_3 = t.regions_known }

pub returns : goal.returns
returns c =
    let t = (through _ _ c.requires _ c.in_ok-need.ensures _ (c.filled_in-regions.ensures.front ∙ ap (filled_in _) c.function_count-count.ensures) _ refl) in
    priced_says _ _ t.good c.price.result (priced_alike _ _ _ t.same c.price.result c.price.ensures)
