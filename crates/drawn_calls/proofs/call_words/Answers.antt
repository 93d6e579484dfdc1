use Prim.Native.Nat.{ℕ}
use native.Mathlib.Omega.{arith}
use lib.ListN.{length-replicate}
use Rattle.model.specs.Places as places
use Rattle.drawn_calls.proofs.Calls.{tells_none, tells_more, tells_all}
use Rattle.drawn_calls.proofs.call_words.Goals as goal

pub loop-f-init : goal.loop-f-init
loop-f-init c = tells_none _ _ (length-replicate {A = ℕ} places.most_functions 0)

pub loop-f-preserved : goal.loop-f-preserved
loop-f-preserved c =
    tells_more _ _ _ _ (omega (arith, (c.function_count-count.ensures), c.requires.functions)) c.loop-f.invariant c.calls_of.ensures

pub returns : goal.returns
returns c = tells_all _ _ _ _ (omega (arith, (c.function_count-count.ensures))) c.loop-f.invariant
