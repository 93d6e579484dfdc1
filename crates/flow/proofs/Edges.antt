-- A problem's edges by their number, and those from one vertex.
use Prim.Native.Nat.{ℕ, ◌+◌, ◌≤◌, ◌<◌}
use mathlib.Core.Path.{◌≡◌, subst}
use mathlib.Core.List.{List}
use native.Mathlib.Omega.{arith}
use lib.ListN.{length, get_or}
use Rattle.model.specs.declared.Edge.{Edge}
use Rattle.model.specs.declared.Problem.{Problem}
use Rattle.model.specs.Zero.{zero_edge}
use Rattle.model.specs.Numbers.{problem_of}
use Rattle.model.specs.Graph.{edge, edges_of}
use Rattle.model.specs.Operations.{Checked}
use Rattle.model.specs.Walks.{EdgeOf}
use Rattle.model.proofs.Cases.{by_order}
use Rattle.model.proofs.Lists.{mem-get_or, index_of}
use Rattle.lookup.proofs.Places.{facts, vertex_small, to_small, edge_small}
use Rattle.flow.specs.Starts.{from, to, Starts}
use Rattle.model.specs.Places as places

module _ (p : Problem) where
  pub is_edge : (i : ℕ) → i < length (edges_of p) → EdgeOf p (from p i) (to p i)
  is_edge i here = mem-get_or (edges_of p) i zero_edge here

  -- What holds of every edge by its number holds of every edge.
  pub by_number : (P : Edge → Type 0) → ((i : ℕ) → i < length (edges_of p) → P (edge (edges_of p) i)) → (u v : ℕ) → EdgeOf p u v →
      P (record { from = u; to = v })
  by_number P all u v e = let r = index_of zero_edge e in subst P r.2 (all r.0 r.1)

-- Vertex u of numbers that passed the checks, with where the edges from each vertex begin.
pub record EdgesFrom (l begins : List ℕ) (u : ℕ) : Type 0 where
  pub checked : Checked l
  pub starts : Starts (problem_of l) begins
  pub there : u < (problem_of l).vertex_count

-- Edge i is one from u.
pub record EdgeFrom (l : List ℕ) (u i : ℕ) : Type 0 where
  pub here : i < length (edges_of (problem_of l))
  pub few : i < places.most_edges
  pub from_u : from (problem_of l) i ≡ u
  pub end_small : to (problem_of l) i < places.most_vertices

module _ {l begins : List ℕ} {u : ℕ} (edges : EdgesFrom l begins u) where
  pub start_small : u < places.most_vertices
  start_small = vertex_small l (facts l edges.checked) u edges.there

  -- The edges from u are those from `begins` at u up to `begins` at u + 1.
  pub from_first : (j : ℕ) → from (problem_of l) j ≡ u → get_or begins u 0 ≤ j
  from_first j e =
      by_order j (get_or begins u 0)
      (λ low. absurd (omega (arith, (edges.starts.at u (omega (arith, edges.there))).lower j low)))
      (λ le. le)

  pub to_last : (j : ℕ) → j < length (edges_of (problem_of l)) → from (problem_of l) j ≡ u → j < get_or begins (u + 1) 0
  to_last j lt e =
      by_order j (get_or begins (u + 1) 0)
      (λ low. low)
      (λ le. absurd (omega (arith, (edges.starts.at (u + 1) (omega (arith, edges.there))).rest j le lt)))

  pub edge_from : (i : ℕ) → get_or begins u 0 ≤ i → i < get_or begins (u + 1) 0 → EdgeFrom l u i
  edge_from i low high =
      let here : i < length (edges_of (problem_of l)) = omega (arith, (edges.starts.at (u + 1) (omega (arith, edges.there))).inside) in
      record {
        here = here;
        few = edge_small l (facts l edges.checked) i here;
        from_u = omega (
          arith,
          (edges.starts.at u (omega (arith, edges.there))).rest i low here,
          (edges.starts.at (u + 1) (omega (arith, edges.there))).lower i high,
        );
        end_small = to_small l (facts l edges.checked) i here;
      }
