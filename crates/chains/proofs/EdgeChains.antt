-- The chains of the edges, filled an edge at a time.
use Prim.Native.Nat.{ℕ, ◌+◌, ◌≤◌, ◌<◌}
use mathlib.Core.Path.{◌≡◌, ◌∙◌}
use mathlib.Core.List.{List}
use native.Mathlib.Omega.{arith}
use lib.ListN.{length, get_or, set, replicate, length-set, length-replicate}
use lib.Seq.{get_or-set_same, get_or-set_other}
use borrow.Author.Tests.{eqb-true, eqb-false}
use Rattle.model.specs.Operations.{Checked}
use Rattle.model.specs.Places as places
use Rattle.lookup.specs.Lists.{edges_in}
use Rattle.greatest.specs.Numbers.{ends}
use Rattle.chains.specs.Chains.{edge_places, Chains, edge_count, leads, EdgeChains}
use Rattle.lookup.proofs.Places.{few_edges, to_small}
use Rattle.chains.proofs.Checks.{facts}
use Rattle.chains.proofs.Chains.{no_chains, one_more_lem, all_chains}

-- The first i edges are in the table.
pub record EdgesIn (l : List ℕ) (i : ℕ) (s : List ℕ) : Type 0 where
  pub within : i ≤ edge_count l
  pub long : length s ≡ edge_places
  pub chains : Chains (leads l) (ends (edges_in l)) i s

module _ (l : List ℕ) where
  pub no_edges : EdgesIn l 0 (replicate edge_places 0)
  no_edges = record { within = omega arith; long = length-replicate {A = ℕ} edge_places 0; chains = no_chains edge_places (omega arith) }

  pub all_edges : {i : ℕ} {s : List ℕ} → edge_count l ≤ i → EdgesIn l i s → EdgeChains l s
  all_edges over so_far = all_chains so_far.within over so_far.chains

  pub one_edge : {i to : ℕ} {s : List ℕ} → Checked l → i < edge_count l → to ≡ ends (edges_in l) i → EdgesIn l i s
      → EdgesIn l (i + 1) (set (set s (places.most_vertices + i) (get_or s to 0)) to (i + 1))
  unfolding leads
  one_edge {i} {to} {s} ok below at_to so_far =
      let inside : to < places.most_vertices = omega (arith, to_small _ (facts ok) i below) in
      let few : edge_count l ≤ places.most_edges = few_edges _ (facts ok) in
      let linked : List ℕ = set s (places.most_vertices + i) (get_or s to 0) in
      let long : length linked ≡ edge_places = length-set s (places.most_vertices + i) (get_or s to 0) ∙ so_far.long in
      let link : get_or linked (places.most_vertices + i) 0 ≡ get_or s to 0 = get_or-set_same s (places.most_vertices + i) (get_or s to 0) 0 (omega (arith, so_far.long)) in
      record {
        within = omega arith;
        long = length-set linked to (i + 1) ∙ long;
        chains =
            one_more_lem so_far.chains (to_small _ (facts ok) i below)
            (λ v h e. let q : v ≡ to = omega (arith, eqb-true (ends (edges_in l) i) v e) in rw q (get_or-set_same linked to (i + 1) 0 (omega arith)))
            (λ v h e.
            get_or-set_other linked to v (i + 1) 0 (λ q. eqb-false (ends (edges_in l) i) v e (omega arith))
            ∙ get_or-set_other s (places.most_vertices + i) v (get_or s to 0) 0 (λ q. omega arith))
            (get_or-set_other linked to (places.most_vertices + i) (i + 1) 0 (λ q. omega arith) ∙ link ∙ (rw at_to))
            (λ j h.
            get_or-set_other linked to (places.most_vertices + j) (i + 1) 0 (λ q. omega arith)
            ∙ get_or-set_other s (places.most_vertices + i) (places.most_vertices + j) (get_or s to 0) 0 (λ q. omega arith));
      }
