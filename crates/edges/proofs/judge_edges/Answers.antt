use Rattle.edges.proofs.Words.{wrong_told, returned_none, returned_more, answers_wrong, answers_returns}
use native.Mathlib.Omega.{arith}
use Rattle.model.proofs.Cases.{all_done}
use Rattle.model.proofs.Search.{start, miss}
use Rattle.edges.proofs.judge_edges.Goals as goal

pub loop-i-init : goal.loop-i-init
loop-i-init c = (start _ _, returned_none _ _ _)

pub returns-then-is_wrong : goal.returns-then-is_wrong
returns-then-is_wrong c =
    answers_wrong _ _ _ _ c.loop-i.invariant.0 (omega arith)
    (wrong_told c.requires.fact_1 c.requires.fact_2 c.requires.fact_3 _ (omega arith) _ _ c.edge_from-from.ensures c.edge_to-to.ensures c.is_wrong.ensures c.if-is_wrong.true)

pub loop-i-preserved : goal.loop-i-preserved
loop-i-preserved c = (
  miss c.loop-i.invariant.0 (omega arith)
      (wrong_told c.requires.fact_1 c.requires.fact_2 c.requires.fact_3 _ (omega arith) _ _ c.edge_from-from.ensures c.edge_to-to.ensures c.is_wrong.ensures c.if-is_wrong.false),
  returned_more _ _ _ c.loop-i.i c.loop-i.invariant.1 c.edge_from-from.ensures c.edge_to-to.ensures,
)

pub returns : goal.returns
returns c =
    let (searched, is) = c.loop-i.invariant in
    let all = all_done _ _ _ (omega (arith, searched.within)) c.loop-i-test.false c.edge_count-count.ensures in
    answers_returns _ _ _ _ searched (omega arith) (rw all at is)
