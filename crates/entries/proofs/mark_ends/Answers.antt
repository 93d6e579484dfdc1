use mathlib.Core.Path.{◌≡◌}
use Rattle.lookup.proofs.Places.{from_small, to_small}
use Rattle.entries.proofs.Marks.{more_marked}
use native.Mathlib.Omega.{arith}
use lib.ListN.{length}
use Rattle.lookup.specs.Lists.{edges_in}
use Rattle.entries.proofs.mark_ends.Goals as goal

pub loop-i-init : goal.loop-i-init
loop-i-init c = c.requires.fact_2

pub loop-i-preserved : goal.loop-i-preserved
loop-i-preserved c =
    more_marked c.loop-i.invariant c.edge_from-from.ensures c.edge_to-to.ensures c.entry_mark.ensures
    (omega (arith, c.edge_from-from.ensures, from_small _ c.requires.fact_1 c.loop-i.i (omega arith)))
    (omega (arith, c.edge_to-to.ensures, to_small _ c.requires.fact_1 c.loop-i.i (omega arith)))

pub returns : goal.returns
returns c =
    let all : c.loop-i.i ≡ length (edges_in c.args.l.now) = omega arith in rw all at c.loop-i.invariant
