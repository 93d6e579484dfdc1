-- Every vertex of a checked problem is reached by some walk, since each has an edge from a lower one.
use Prim.Native.Nat.{ℕ, zero, suc, ◌<◌}
use mathlib.Core.Path.{subst}
use mathlib.Core.List.{List, [], ◌∷◌}
use native.Mathlib.Omega.{arith}
use lib.ListN.{length}
use Rattle.model.specs.Numbers.{problem_of}
use Rattle.model.specs.Graph.{edges_of, loops_of}
use Rattle.model.specs.Walks.{EdgeOf, Walk, start, step}
use Rattle.model.specs.Operations.{Checked}
use Rattle.flow.specs.Starts.{from}
use Rattle.lookup.proofs.Places.{facts, from_below}
use Rattle.graph.proofs.Facts.{GraphFacts, graph_facts}

module _ (l : List ℕ) (ok : Checked l) where
  graph : GraphFacts (problem_of l).vertex_count (edges_of (problem_of l)) (loops_of (problem_of l))
  graph = graph_facts (problem_of l).vertex_count (edges_of (problem_of l)) (loops_of (problem_of l)) ok.graph

  -- The vertices below n.
  below : (n v : ℕ) → v < n → v < (problem_of l).vertex_count → (h : List ℕ) × Walk (EdgeOf (problem_of l)) v h
  below zero v low lt = absurd (omega arith)
  below (suc n) zero low lt = ([], start)
  below (suc n) (suc v) low lt =
      let (e, edge, lower, end) = graph.entered (suc v) (omega arith) lt in
      let (h, walk) = below n e.from (omega arith) (omega arith) in
      (e.from ∷ h, step walk (subst (λ (x : ℕ). EdgeOf (problem_of l) e.from x) end edge))

  pub reached : (v : ℕ) → v < (problem_of l).vertex_count → (h : List ℕ) × Walk (EdgeOf (problem_of l)) v h
  reached v lt = below (suc v) v (omega arith) lt

  -- So is the start of every edge.
  pub starts : (i : ℕ) → i < length (edges_of (problem_of l)) → (h : List ℕ) × Walk (EdgeOf (problem_of l)) (from (problem_of l) i) h
  starts i here = reached (from (problem_of l) i) (from_below l (facts _ ok) i here)
