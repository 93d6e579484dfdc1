-- `inline_numbers` meets Inline's definition: a stage before 19 refuses, or what `build` says and leaves is the answer.
use Rattle.std.proofs.lemmas.Result.{err_from_is_err_and}
use Rattle.inline.proofs.Built.{stages_facts, stage_refuses, numbers_inlined}
use Rattle.inline.proofs.inline_numbers.Goals as goal

pub returns-in_err-judge_drawn : goal.returns-in_err-judge_drawn
returns-in_err-judge_drawn c =
    let p = err_from_is_err_and c.from_residual.result c.from_residual.ensures.1 in rw (p.1, p.2) (stage_refuses _ _ _ c.in_err-judge_drawn.ensures)

pub build-requires : goal.build-requires
build-requires c = record { fact_1 = stages_facts _ c.in_ok-judge_drawn.ensures; fact_2 = c.requires }

pub returns : goal.returns
returns c = numbers_inlined _ _ _ c.in_ok-judge_drawn.ensures c.build.ensures
