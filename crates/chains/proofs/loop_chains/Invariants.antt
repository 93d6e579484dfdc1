-- `chains::loop_chains` puts every loop before the chains of the vertices it holds. The loop's invariant: the first i loops are in the table.
use Rattle.chains.proofs.LoopChains.{LoopsIn}
use Rattle.chains.proofs.loop_chains.Given as goal

abbrev pub invariant-loop-i : goal.invariant-loop-i
invariant-loop-i l = LoopsIn l.l l.i l.loops
