use native.Mathlib.Omega.{arith}
use Rattle.drawn_calls.proofs.InPlace.{let_more, let_all}
use Rattle.drawn_calls.proofs.let_through.Goals as goal

pub loop-f-preserved : goal.loop-f-preserved
loop-f-preserved c =
    let_more _ _ _ _ c.loop-f.invariant _ (omega (arith, c.requires.fact_1.1)) c.through.ensures

pub returns : goal.returns
returns c = let_all _ _ _ _ c.loop-f.invariant _ (omega arith)
