-- `read_numbers` meets Read's definition as far as the verdict: the fields, the bytes left over, the graph.
use mathlib.Core.Path.{refl}
use Rattle.std.proofs.lemmas.Result.{err_from_is_err_and}
use Rattle.file.proofs.NumbersRead.{zeros_long, from_zeros, facts_read}
use Rattle.file.proofs.Stages.{read_refused, left_over, graph_judged}
use Rattle.file.proofs.read_numbers.Goals as goal

pub read_fields-requires : goal.read_fields-requires
read_fields-requires c = zeros_long _ c.requires

pub returns-in_err-end : goal.returns-in_err-end
returns-in_err-end c =
    let p = err_from_is_err_and c.from_residual.result c.from_residual.ensures.1 in
    rw (p.1, p.2) (read_refused _ _ _ (from_zeros _ c.requires _ _ c.in_err-end.ensures) _ refl)

pub returns-then-end-bytes : goal.returns-then-end-bytes
returns-then-end-bytes c = left_over _ _ _ (from_zeros _ c.requires _ _ c.in_ok-end.ensures) _ refl c.if-end-bytes.true

pub judge-requires : goal.judge-requires
judge-requires c = facts_read _ _ _ (from_zeros _ c.requires _ _ c.in_ok-end.ensures) _ refl

pub returns : goal.returns
returns c = graph_judged _ _ _ (from_zeros _ c.requires _ _ c.in_ok-end.ensures) _ refl c.if-end-bytes.false _ c.judge.ensures
