-- Rules 4 (for loops) and 6 to 9 of a graph, over any edges and loops, and that every drawn graph keeps them.
use Prim.Native.Nat.{ℕ, suc, ◌+◌, ◌≤◌, ◌<◌}
use mathlib.Core.Path.{◌≡◌}
use mathlib.Core.Bool.{true, false}
use mathlib.Core.List.{List, Memᴰ}
use mathlib.Core.Logic.{◌⊎◌}
use native.Mathlib.Omega.{arith}
use Rattle.model.specs.declared.Edge.{Edge}
use Rattle.model.specs.declared.Loop.{Loop}
use Rattle.model.specs.Graph.{holds, edges_of, loops_of}
use Rattle.model.specs.Walks.{EdgeOf}
use Rattle.model.specs.Drawings.{drawn_functions, drawn_count, graph_of}
use Rattle.graph.proofs.Facts.{GraphFacts}
use Rattle.drawings.specs.Facts.{DrawingFacts}
use Rattle.greatest.proofs.Loops.{unique}
use Rattle.greatest.proofs.Graph.{Ranges, EdgeIn, Next, ascend_by_next, rules, order, linked}
use Rattle.calls.proofs.Members.{loop_count_lem, loop_at_lem, every_edge, every_loop}

pub record Lawful (n : ℕ) (Edge : ℕ → ℕ → Type 0) (In : Loop → Type 0) : Type 0 where
  pub reached : (v : ℕ) → v < n → 0 < v → (u : ℕ) × (u < v) × Edge u v
  pub leads : (v : ℕ) → suc v < n → (w : ℕ) × Edge v w
  pub wide : (l : Loop) → In l → l.header ≤ l.last
  pub short : (l : Loop) → In l → suc l.last < n
  pub nested : (l m : Loop) → In l → In m → l.header < m.header → (l.last < m.header) ⊎ (m.last ≤ l.last)
  pub one : (l m : Loop) → In l → In m → l.header ≡ m.header → l ≡ m
  pub enter : (u v : ℕ) (l : Loop) → Edge u v → In l → holds l v ≡ true → holds l u ≡ false → l.header ≡ v
  pub return : (u v : ℕ) → Edge u v → v ≤ u → (l : Loop) × In l × (l.header ≡ v) × (holds l u ≡ true)
  pub again : (l : Loop) → In l → (u : ℕ) × (holds l u ≡ true) × Edge u l.header

abbrev pub DrawnLawful : List ℕ → Type 0
DrawnLawful d = (f : ℕ) → f < drawn_functions d → Lawful (drawn_count d f) (EdgeOf (graph_of d f)) (λ l. Memᴰ l (loops_of (graph_of d f)))

starts_at : {es : List Edge} (e : Edge) {u : ℕ} → Memᴰ e es → e.from ≡ u → EdgeIn es u e.to
starts_at e m q = rw (← q) m

module _ (d : List ℕ) (facts : DrawingFacts d) (f : ℕ) (known : f < drawn_functions d) where
  headers_ascend : Next (loops_of (graph_of d f))
  headers_ascend i h =
      let long = loop_count_lem d facts f known in
      let next : suc i ≡ i + 1 = omega arith in
      rw (loop_at_lem d facts f known i (omega arith), loop_at_lem d facts f known (suc i) (omega arith), next) ((facts.drawn f known).headers i (omega arith))

  drawn_ranges : Ranges (drawn_count d f) (edges_of (graph_of d f)) (loops_of (graph_of d f))
  drawn_ranges =
      record {
        some_vertex = (facts.drawn f known).some_vertex;
        from = every_edge d facts f known (λ e. e.from < drawn_count d f) (facts.drawn f known).from;
        to = every_edge d facts f known (λ e. e.to < drawn_count d f) (facts.drawn f known).to;
        header = every_loop d facts f known (λ l. l.header ≤ l.last) (facts.drawn f known).header;
        last = every_loop d facts f known (λ l. l.last < drawn_count d f) (λ i h. omega (arith, (facts.drawn f known).last i h));
        bound = every_loop d facts f known (λ l. 1 ≤ l.bound) (facts.drawn f known).bound_low;
        ascend = ascend_by_next (loops_of (graph_of d f)) headers_ascend;
      }

  -- Rules 3 and 4 say the ranges, 6 to 9 the rest.
  graph_lawful : GraphFacts (drawn_count d f) (edges_of (graph_of d f)) (loops_of (graph_of d f))
      → Lawful (drawn_count d f) (EdgeOf (graph_of d f)) (λ l. Memᴰ l (loops_of (graph_of d f)))
  graph_lawful graph =
      let R = rules graph drawn_ranges in
      let O = order graph drawn_ranges in
      let L = linked graph drawn_ranges in
      record {
        reached = λ v h p. let (u, e, low) = L.lower v h (λ q. omega arith) in (u, low, e);
        leads = λ v h. let (e, m, q) = graph.exited v (omega arith) in (e.to, starts_at e m q);
        wide = R.wide;
        short = every_loop d facts f known (λ l. suc l.last < drawn_count d f) (λ i h. omega (arith, (facts.drawn f known).last i h));
        nested = O.nested;
        one = λ l m i j. unique R.ascend i j;
        enter = R.enter;
        return = R.back;
        again = λ l i. let (u, e, h) = L.round l i in (u, h, e);
      }

pub drawn_lawful :
    (d : List ℕ) → DrawingFacts d →
    ((f : ℕ) → f < drawn_functions d → GraphFacts (drawn_count d f) (edges_of (graph_of d f)) (loops_of (graph_of d f))) → DrawnLawful d
drawn_lawful d facts graphs f known = graph_lawful d facts f known (graphs f known)
