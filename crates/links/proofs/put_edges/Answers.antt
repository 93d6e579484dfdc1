-- `put_edges` puts the edges row by row.
use mathlib.Core.Path.{sym, ap}
use native.Mathlib.Omega.{arith}
use Rattle.model.specs.Inlining.{row_at, inlined_edges}
use Rattle.links.proofs.Adding.{through_none, through_more, through_all, through_past}
use Rattle.links.proofs.ByRow.{here_fits, here_below, caller_below, caller_fits}
use Rattle.links.proofs.put_edges.Goals as goal

pub loop-i-init : goal.loop-i-init
loop-i-init c = through_none _ _ _ _ _ _

pub returns-then-k-gt-MOST_EDGES : goal.returns-then-k-gt-MOST_EDGES
unfolding inlined_edges
returns-then-k-gt-MOST_EDGES c = through_past _ _ _ _ _ _ _ _ _ c.loop-i.invariant c.if-k-gt-MOST_EDGES.true

pub offset_bounds-rows-one_before : goal.offset_bounds-rows-one_before
offset_bounds-rows-one_before c = omega (arith, caller_below _ _ _ c.requires c.loop-i.i c.loop-i-test.true _ c.one_before.ensures, c.requires.few)

pub bounds-rows-one_before : goal.bounds-rows-one_before
bounds-rows-one_before c = caller_below _ _ _ c.requires c.loop-i.i c.loop-i-test.true _ c.one_before.ensures

pub put_row-k-requires : goal.put_row-k-requires
put_row-k-requires c =
    record {
      fact_1 = c.requires.facts;
      fact_2 = here_fits _ _ _ c.requires c.loop-i.i c.loop-i-test.true;
      fact_3 = caller_fits _ _ _ c.requires c.loop-i.i c.loop-i-test.true _ c.one_before.ensures;
      fact_4 = here_below _ _ _ c.requires c.loop-i.i c.loop-i-test.true;
    }

pub loop-i-preserved : goal.loop-i-preserved
loop-i-preserved c =
    through_more _ _ _ _ _ _ _ _ _ c.loop-i.invariant _ _ c.loop-i-test.true
    (c.put_row-k.ensures c.args.rows.now c.requires.placed (ap (row_at c.args.rows.now) (sym c.one_before.ensures)))

pub returns : goal.returns
unfolding inlined_edges
returns c = through_all _ _ _ _ _ _ _ _ _ c.loop-i.invariant c.loop-i-test.false
