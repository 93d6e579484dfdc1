-- The inlined problem's graph keeps rules 6 to 9.
use Prim.Native.Nat.{ℕ, suc, ◌-◌, ◌<◌}
use mathlib.Core.Path.{◌≡◌, refl}
use mathlib.Core.List.{List, Memᴰ}
use mathlib.Core.Bool.{false}
use native.Mathlib.Omega.{arith}
use lib.ListN.{length}
use Rattle.model.specs.declared.Edge.{Edge}
use Rattle.model.specs.declared.Loop.{Loop}
use Rattle.model.specs.declared.Row.{Row}
use Rattle.model.specs.Zero.{zero_loop}
use Rattle.model.specs.Graph.{holds, loop}
use Rattle.model.specs.Walks.{EdgeOf}
use Rattle.model.specs.Drawings.{drawn_functions, drawn_count, graph_of}
use Rattle.model.specs.Inlining.{inlined_edges, inlined_loops}
use Rattle.model.proofs.Cases.{by_bool, by_order}
use Rattle.model.proofs.Lists.{mem-get_or}
use Rattle.graph.proofs.Facts.{GraphFacts}
use Rattle.greatest.proofs.Loops.{holds_from}
use Rattle.drawings.specs.Facts.{DrawingFacts}
use Rattle.calls.proofs.States.{Drawn}
use Rattle.calls.proofs.Runs.{Joined}
use Rattle.calls.proofs.Stretch.{Ring}
use Rattle.calls.proofs.Lawful.{Lawful, DrawnLawful}
use Rattle.calls.proofs.Rules.{inlined_lawful}
use Rattle.inlined.proofs.Ordered.{ascending_pair}
use Rattle.inlined.proofs.Places.{Whole}
use Rattle.inlined.proofs.EdgesAre.{edge_joined, joined_edge}
use Rattle.inlined.proofs.LoopsAre as loops
use Rattle.inlined.proofs.LoopsAre.{loop_ring, ring_loop, loops_ascend}

module _ (d : List ℕ) (facts : DrawingFacts d) (L : DrawnLawful d) where
  -- No edge leaves a graph's last vertex: it would go back, into a loop that holds the last vertex.
  pub edge_leaves : (size : ℕ → ℕ) → Drawn d size → (f v w : ℕ) → f < drawn_functions d → EdgeOf (graph_of d f) v w → suc v < drawn_count d f
  edge_leaves size D f v w k e =
      by_order (suc v) (drawn_count d f) (λ h. h) (λ h.
      let low = D.inside f v w k e in
      let (l, m, header, held) = (L f k).return v w e (omega arith) in
      let z : ⊥ = omega (arith, holds_from l v held, (L f k).short l m) in elim z [ ])

  module _ (size : ℕ → ℕ) (D : Drawn d size) (rows : List Row) (W : Whole d size D rows) where
    abbrev es : List Edge
    es = inlined_edges d rows

    abbrev ls : List Loop
    ls = inlined_loops d rows

    R : Lawful (size 0) (Joined d (size 0)) (Ring d size)
    R = inlined_lawful d size D L

    joined : (e : Edge) → Memᴰ e es → Joined d (size 0) e.from e.to
    joined e m = edge_joined d size D (edge_leaves size D) rows W e.from e.to m

    edge_in : (i j : ℕ) → Joined d (size 0) i j → Memᴰ (record { from = i; to = j }) es
    edge_in = joined_edge d size D (edge_leaves size D) rows W

    ring : (l : Loop) → Memᴰ l ls → Ring d size l
    ring = loop_ring d facts size D rows W

    loop_in : (l : Loop) → Ring d size l → Memᴰ l ls
    loop_in = ring_loop d facts size D rows W

    beyond : (l : Loop) (v : ℕ) → l.last < v → holds l v ≡ false
    beyond l v h = by_bool (holds l v) (λ e. let z : ⊥ = omega (arith, holds_from l v e) in elim z [ ]) (λ e. e)

    pub graph_facts : GraphFacts (length rows) es ls
    graph_facts =
        record {
          entered = λ v low h. let (u, below, e) = R.reached v (omega (arith, W.count)) low in (record { from = u; to = v }, edge_in u v e, below, refl);
          exited = λ v h. let (w, e) = R.leads v (omega (arith, W.count)) in (record { from = v; to = w }, edge_in v w e, refl);
          nested = λ i j h k.
              R.nested (loop ls i) (loop ls j) (ring (loop ls i) (mem-get_or ls i zero_loop (omega arith))) (ring (loop ls j) (mem-get_or ls j zero_loop k))
              (ascending_pair loops.Before zero_loop ls i j (loops_ascend d facts size D rows W) h k);
          open_end = λ l m. beyond l (length rows - 1) (omega (arith, W.count, R.short l (ring l m)));
          enter = λ e l m n inside outside. R.enter e.from e.to l (joined e m) (ring l n) inside outside;
          back = λ e m low. let (l, r, header, held) = R.return e.from e.to (joined e m) low in (l, loop_in l r, header, held);
          returns = λ l m. let (u, held, e) = R.again l (ring l m) in (record { from = u; to = l.header }, edge_in u l.header e, held, refl);
        }
