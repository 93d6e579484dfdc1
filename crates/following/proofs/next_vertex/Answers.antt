use mathlib.Core.Path.{sym, subst}
use native.Mathlib.Omega.{arith}
use Rattle.lookup.proofs.Places.{facts}
use Rattle.flow.proofs.Edges.{start_small}
use Rattle.following.specs.Following.{Lowest}
use Rattle.following.proofs.Seeking.{from_vertex, seek_begun, seek_here, seek_place, seek_on, sought}
use Rattle.following.proofs.next_vertex.Goals as goal

pub offset_bounds-begins-u : goal.offset_bounds-begins-u
offset_bounds-begins-u c = omega (arith, start_small (from_vertex c.requires))

pub bounds-begins-u : goal.bounds-begins-u
bounds-begins-u c = omega (arith, start_small (from_vertex c.requires))

pub loop-u-init : goal.loop-u-init
loop-u-init c = let pre = c.requires in (from_vertex pre, seek_begun pre)

pub edge_to-w-requires : goal.edge_to-w-requires
edge_to-w-requires c = let (edges, seeking) = c.loop-u.invariant in record { fact_1 = facts _ edges.checked; fact_2 = (seek_here edges _ _ _ seeking).here }

pub overflow_mul-w : goal.overflow_mul-w
overflow_mul-w c = let (edges, seeking) = c.loop-u.invariant in omega (arith, seek_place edges _ _ _ seeking c.edge_to-w.ensures c.requires.low)

pub overflow_add-w : goal.overflow_add-w
overflow_add-w c = let (edges, seeking) = c.loop-u.invariant in omega (arith, seek_place edges _ _ _ seeking c.edge_to-w.ensures c.requires.low)

pub offset_bounds-steps-w : goal.offset_bounds-steps-w
offset_bounds-steps-w c = let (edges, seeking) = c.loop-u.invariant in omega (arith, seek_place edges _ _ _ seeking c.edge_to-w.ensures c.requires.low)

pub bounds-steps-w : goal.bounds-steps-w
bounds-steps-w c = let (edges, seeking) = c.loop-u.invariant in omega (arith, seek_place edges _ _ _ seeking c.edge_to-w.ensures c.requires.low)

pub returns-then-steps-w : goal.returns-then-steps-w
returns-then-steps-w c =
    let (edges, seeking) = c.loop-u.invariant in
    subst (Lowest _ _ _ _ _) (sym c.edge_to-w.ensures) (sought edges _ _ _ seeking (rw (← c.edge_to-w.ensures) c.if-steps-w.true))

pub overflow_add-i : goal.overflow_add-i
overflow_add-i c =
    let (edges, seeking) = c.loop-u.invariant in
    omega (arith, (seek_here edges _ _ _ seeking).few)

pub loop-u-smaller : goal.loop-u-smaller
loop-u-smaller c =
    let (edges, seeking) = c.loop-u.invariant in
    omega (arith, (seek_here edges _ _ _ seeking).here)

pub loop-u-preserved : goal.loop-u-preserved
loop-u-preserved c =
    let (edges, seeking) = c.loop-u.invariant in
    (edges, seek_on edges _ _ _ seeking (λ hit. c.if-steps-w.false (rw c.edge_to-w.ensures hit)))
