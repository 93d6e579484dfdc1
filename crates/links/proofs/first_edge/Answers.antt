use Prim.Native.Nat.{◌+◌, ◌/◌, ◌≤◌, ◌<◌}
use native.Mathlib.Omega.{arith}
use Rattle.model.specs.Places as places
use Rattle.links.proofs.Halving.{all_between, met, raised, lowered}
use borrow.Author.Rules.{rules}
use Rattle.links.proofs.first_edge.Goals as goal

pub edge_count-high-requires : goal.edge_count-high-requires
edge_count-high-requires c = omega (arith, c.requires.fact_2, c.requires.fact_1.functions)

pub loop-low-init : goal.loop-low-init
loop-low-init c = all_between _ _ _ _ c.edge_count-high.ensures

pub overflow_add-middle : goal.overflow_add-middle
overflow_add-middle c =
    let few : c.loop-low.high ≤ places.most_edges = omega (arith, c.loop-low.invariant.within, (c.requires.fact_1.drawn c.args.f c.requires.fact_2).edges) in
    omega (arith, few, c.loop-low.invariant.order)

pub edge_from-requires : goal.edge_from-requires
edge_from-requires c =
    let known : c.args.f < places.most_functions = omega (arith, c.requires.fact_2, c.requires.fact_1.functions) in
    let few : c.loop-low.high ≤ places.most_edges = omega (arith, c.loop-low.invariant.within, (c.requires.fact_1.drawn c.args.f c.requires.fact_2).edges) in
    let less : c.loop-low.low < c.loop-low.high = search rules in
    let inside : (c.loop-low.low + c.loop-low.high) / 2 < c.loop-low.high = omega arith in
    (known, omega (arith, few, inside))

pub loop-low-preserved-then-edge_from-v : goal.loop-low-preserved-then-edge_from-v
loop-low-preserved-then-edge_from-v c =
    let less : c.loop-low.low < c.loop-low.high = search rules in
    let inside : (c.loop-low.low + c.loop-low.high) / 2 < c.loop-low.high = omega arith in
    raised _ _ (c.requires.fact_1.drawn c.args.f c.requires.fact_2) _ _ _ _ c.loop-low.invariant inside
    (omega (arith, c.if-edge_from-v.true, c.edge_from.ensures))

pub loop-low-preserved : goal.loop-low-preserved
loop-low-preserved c =
    let less : c.loop-low.low < c.loop-low.high = search rules in
    let inside : (c.loop-low.low + c.loop-low.high) / 2 < c.loop-low.high = omega arith in
    let from_low : c.loop-low.low ≤ (c.loop-low.low + c.loop-low.high) / 2 = omega arith in
    lowered _ _ (c.requires.fact_1.drawn c.args.f c.requires.fact_2) _ _ _ _ c.loop-low.invariant inside from_low
    (omega (arith, c.if-edge_from-v.false, c.edge_from.ensures))

pub returns : goal.returns
returns c = met _ _ _ _ _ c.loop-low-test.false c.loop-low.invariant
