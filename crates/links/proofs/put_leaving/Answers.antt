-- `put_leaving` puts the edges from the row's vertex.
use Prim.Native.Nat.{ℕ, ◌<◌}
use mathlib.Core.Path.{sym, ap, ◌∙◌}
use native.Mathlib.Omega.{arith}
use lib.ListN.{get_or}
use Rattle.model.specs.Drawings.{drawn_edges}
use Rattle.links.specs.Placed.{spot}
use Rattle.links.proofs.Drawn.{row_drawn, row_first}
use Rattle.links.proofs.Leaving.{leaving_begun, leaving_more, leaving_past, leaving_all}
use Rattle.links.proofs.put_leaving.Goals as goal
use Rattle.links.proofs.put_leaving.Goals.{In-loop-j}

below : (c : In-loop-j) → c.loop-j.j < drawn_edges c.args.d.now c.args.here.function
below c = omega (arith, c.loop-j-test.true, c.edge_count-n.ensures)

pub loop-j-init : goal.loop-j-init
loop-j-init c = leaving_begun _ c.requires.fact_1 _ _ c.requires.fact_2 _ _ _ _ c.first_edge-j.ensures

pub returns-then-edge_from-v : goal.returns-then-edge_from-v
returns-then-edge_from-v c =
    leaving_past _ c.requires.fact_1 _ _ c.requires.fact_2 _ _ _ _ _ _ c.loop-j.invariant (below (goal.at.returns-then-edge_from-v c).In-loop-j)
    (λ same. c.if-edge_from-v.true (omega (arith, same, c.edge_from.ensures)))

pub place_of-to-requires : goal.place_of-to-requires
place_of-to-requires c =
    (row_first _ c.requires.fact_1 _ _ c.requires.fact_2 c.requires.fact_3, omega (arith, c.edge_to.ensures, (row_drawn _ c.requires.fact_1 _ _ c.requires.fact_2).to c.loop-j.j (below (goal.at.place_of-to-requires c).In-loop-j), (row_drawn _ c.requires.fact_1 _ _ c.requires.fact_2).vertices))

pub loop-j-preserved : goal.loop-j-preserved
loop-j-preserved c =
    leaving_more _ c.requires.fact_1 _ _ c.requires.fact_2 _ _ _ _ _ _ c.loop-j.invariant c.requires.fact_3 (below (goal.at.loop-j-preserved c).In-loop-j)
    (sym c.edge_from.ensures ∙ c.if-edge_from-v.false)
    _ (c.place_of-to.ensures ∙ ap (λ (w : ℕ). get_or c.args.table.now (spot c.args.here.first w) 0) c.edge_to.ensures) _ _ c.put_edge-at.ensures

pub returns : goal.returns
returns c =
    leaving_all _ c.requires.fact_1 _ _ c.requires.fact_2 _ _ _ _ _ _ c.loop-j.invariant (omega (arith, c.loop-j-test.false, c.edge_count-n.ensures))
