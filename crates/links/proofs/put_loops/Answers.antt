-- `put_loops` puts the loops row by row.
use Rattle.model.specs.Inlining.{inlined_loops}
use Rattle.links.proofs.Adding.{through_none, through_more, through_all, through_past}
use Rattle.links.proofs.ByRow.{here_fits, here_below}
use Rattle.links.proofs.put_loops.Goals as goal

pub loop-i-init : goal.loop-i-init
loop-i-init c = through_none _ _ _ _ _ _

pub returns-then-k-gt-MOST_LOOPS : goal.returns-then-k-gt-MOST_LOOPS
unfolding inlined_loops
returns-then-k-gt-MOST_LOOPS c = through_past _ _ _ _ _ _ _ _ _ c.loop-i.invariant c.if-k-gt-MOST_LOOPS.true

pub put_headed-k-requires : goal.put_headed-k-requires
put_headed-k-requires c =
    record {
      fact_1 = c.requires.facts;
      fact_2 = here_fits _ _ _ c.requires c.loop-i.i c.loop-i-test.true;
      fact_3 = here_below _ _ _ c.requires c.loop-i.i c.loop-i-test.true;
    }

pub loop-i-preserved : goal.loop-i-preserved
loop-i-preserved c =
    through_more _ _ _ _ _ _ _ _ _ c.loop-i.invariant _ _ c.loop-i-test.true (c.put_headed-k.ensures c.args.rows.now c.requires.placed)

pub returns : goal.returns
unfolding inlined_loops
returns c = through_all _ _ _ _ _ _ _ _ _ c.loop-i.invariant c.loop-i-test.false
