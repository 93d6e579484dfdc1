-- `judge_drawn` meets its contract: each stage on the good case of the one before.
use mathlib.Core.Path.{sym}
use Rattle.drawings.proofs.Opened.{few_functions, drawing_facts}
use Rattle.drawing_checks.proofs.Accepted.{countable}
use Rattle.drawing_checks.proofs.judge_drawn.Goals as goal

pub judge_graphs-requires : goal.judge_graphs-requires
judge_graphs-requires c = few_functions _ (sym c.in_ok-judge_head.ensures)

pub judge_last-requires : goal.judge_last-requires
judge_last-requires c = countable _ (sym c.in_ok-judge_head.ensures) (sym c.in_ok-judge_graphs.ensures)

pub judge_calls-requires : goal.judge_calls-requires
judge_calls-requires c =
    drawing_facts _ (sym c.in_ok-judge_head.ensures) (sym c.in_ok-judge_graphs.ensures) (sym c.in_ok-judge_last.ensures)
