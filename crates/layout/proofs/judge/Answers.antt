-- `layout::judge` is its definition: 11, 12 and 13, each on the good case of the one before.
use mathlib.Core.Path.{◌≡◌, refl, sym, ◌∙◌}
use Rattle.std.proofs.lemmas.Result.{err_from_is_err_and}
use Rattle.model.specs.Numbers.{problem_of}
use Rattle.model.specs.Layouts.{region_of}
use Rattle.layout.proofs.Alike.{alike_regions, alike_need}
use Rattle.layout.proofs.FilledIn.{lists_all, regions_same}
use Rattle.layout.proofs.Judged.{bad_length, bad_region, too_large, fits}
use Rattle.layout.proofs.judge.Goals as goal
use Rattle.layout.proofs.judge.Goals.{In_ok-judge_length}

-- The regions filled in are the layout's.
same : (c : In_ok-judge_length) → region_of c.args.regions.now ≡ region_of c.args.layout.now
same c = regions_same (problem_of c.args.l.now) _ _ c.requires.fact_2 (sym c.in_ok-judge_length.ensures)

pub returns-in_err-judge_length : goal.returns-in_err-judge_length
returns-in_err-judge_length c =
    let p = err_from_is_err_and c.from_residual.result c.from_residual.ensures.1 in rw (p.1, p.2) (bad_length _ _ c.in_err-judge_length.ensures refl)

pub judge_regions-requires : goal.judge_regions-requires
judge_regions-requires c = (lists_all (problem_of c.args.l.now) _ _ c.requires.fact_2)

pub returns-in_err-judge_regions : goal.returns-in_err-judge_regions
returns-in_err-judge_regions c =
    let judged = (goal.at.returns-in_err-judge_regions c).In_ok-judge_length in
    let p = err_from_is_err_and c.from_residual-in_err-judge_regions.result c.from_residual-in_err-judge_regions.ensures.1 in
    rw (p.1, p.2) (bad_region _ _ c.in_ok-judge_length.ensures refl (c.in_err-judge_regions.ensures ∙ alike_regions _ _ (same judged) (problem_of c.args.l.now)) refl)

pub need-needed-requires : goal.need-needed-requires
need-needed-requires c = record { fact_1 = c.requires.fact_1; fact_2 = (lists_all (problem_of c.args.l.now) _ _ c.requires.fact_2) }

pub returns-in_err-judge_need : goal.returns-in_err-judge_need
returns-in_err-judge_need c =
    let judged = (goal.at.returns-in_err-judge_need c).In_ok-judge_length in
    let p = err_from_is_err_and c.from_residual-in_err-judge_need.result c.from_residual-in_err-judge_need.ensures.1 in
    rw (p.1, p.2) (too_large _ _ c.in_ok-judge_length.ensures refl (c.in_ok-judge_regions.ensures ∙ alike_regions _ _ (same judged) (problem_of c.args.l.now)) refl
    (c.need-needed.ensures ∙ alike_need _ _ (same judged) (problem_of c.args.l.now)) c.in_err-judge_need.ensures refl)

pub returns : goal.returns
returns c =
    let judged = (goal.at.returns c).In_ok-judge_length in
    fits _ _ c.in_ok-judge_length.ensures refl (c.in_ok-judge_regions.ensures ∙ alike_regions _ _ (same judged) (problem_of c.args.l.now)) refl
    (c.need-needed.ensures ∙ alike_need _ _ (same judged) (problem_of c.args.l.now)) c.in_ok-judge_need.ensures refl
