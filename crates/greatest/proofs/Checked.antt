-- A problem's numbers that passed the problem's checks make a graph that passes rules 6 to 9, with fields in their ranges.
use Prim.Native.Nat.{ℕ, suc, ◌+◌, ◌≤◌, ◌<◌}
use mathlib.Core.Path.{◌≡◌, subst}
use mathlib.Core.List.{List, Memᴰ}
use native.Mathlib.Omega.{arith}
use lib.ListN.{length, get_or}
use Rattle.model.specs.Zero.{zero_edge, zero_loop}
use Rattle.model.specs.Numbers.{problem_of}
use Rattle.model.specs.Graph.{edges_of, loops_of}
use Rattle.model.specs.Operations.{Checked}
use Rattle.model.proofs.Lists.{index_of}
use Rattle.facts.specs.Fields.{FieldFacts}
use Rattle.lookup.specs.Lists.{vertices_in, edges_in, loops_in}
use Rattle.lookup.proofs.Places as places
use Rattle.graph.proofs.Facts.{GraphFacts, graph_facts}
use Rattle.greatest.proofs.Graph.{Ranges, Next, ascend_by_next}

-- What holds at every place of a list holds of its members.
every : {A : Type 0} (d : A) (s : List A) (P : A → Type 0) → ((i : ℕ) → i < length s → P (get_or s i d)) → (x : A) → Memᴰ x s → P x
every d s P all x m = let (i, h, e) = index_of d m in subst P e (all i h)

module _ (l : List ℕ) (ok : Checked l) where
  pub checked_graph : GraphFacts (problem_of l).vertex_count (edges_of (problem_of l)) (loops_of (problem_of l))
  checked_graph = graph_facts (vertices_in l) (edges_in l) (loops_in l) ok.graph

  facts : FieldFacts l
  facts = places.facts l ok

  headers : Next (loops_in l)
  headers i h = let next : suc i ≡ i + 1 = omega arith in rw next (places.next_header l facts i (omega arith))

  pub checked_ranges : Ranges (problem_of l).vertex_count (edges_of (problem_of l)) (loops_of (problem_of l))
  checked_ranges =
      record {
        some_vertex = places.some_vertex l facts;
        from = every zero_edge (edges_in l) (λ e. e.from < vertices_in l) (places.from_below l facts);
        to = every zero_edge (edges_in l) (λ e. e.to < vertices_in l) (places.to_below l facts);
        header = every zero_loop (loops_in l) (λ x. x.header ≤ x.last) (places.header_low l facts);
        last = every zero_loop (loops_in l) (λ x. x.last < vertices_in l) (places.last_below_lem l facts);
        bound = every zero_loop (loops_in l) (λ x. 1 ≤ x.bound) (places.bound_low l facts);
        ascend = ascend_by_next (loops_in l) headers;
      }
