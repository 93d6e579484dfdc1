-- The pass over a graph's edges from a vertex: it begins at the first of them and ends behind the last.
use Prim.Native.Nat.{ℕ, ◌+◌, ◌-◌, ◌≤◌, ◌<◌}
use mathlib.Core.Path.{◌≡◌, sym, ap, ◌∙◌, subst}
use mathlib.Core.List.{List, [], ◌∷◌, flat_map}
use native.Mathlib.Omega.{arith}
use lib.ListN.{length, get_or, take}
use lib.Seq.{take_all}
use borrow.Author.Tests.{eq-eqb, ne_eqb}
use Rattle.model.specs.declared.Edge.{Edge}
use Rattle.model.specs.declared.Row.{Row}
use Rattle.model.specs.Places as places
use Rattle.model.specs.Zero.{zero_edge}
use Rattle.model.specs.Graph.{edges_of}
use Rattle.model.specs.Numbers.{edge_numbers}
use Rattle.model.specs.Drawings.{drawn_edges, drawn_edge, graph_of}
use Rattle.model.specs.Inlining.{number_in, along, leaving}
use Rattle.drawings.specs.Facts.{DrawnFacts, DrawingFacts}
use Rattle.rows.specs.Fit.{RowFits}
use Rattle.links.specs.Put.{AddsEdges, edge}
use Rattle.links.specs.Placed.{spot, Placed}
use Rattle.links.specs.First.{FirstFrom}
use Rattle.model.proofs.Mapped.{flat_map_none}
use Rattle.links.proofs.Adding.{adds_none, passed_more}
use Rattle.links.proofs.Drawn.{edge_count, edge_at_lem, row_drawn, row_first}
use Rattle.links.proofs.Halving.{ascending}

-- The edges of the row's graph up to j are put; none from j on is from a lower vertex.
pub record LeavingTo (d : List ℕ) (i : ℕ) (r : Row) (table l₀ : List ℕ) (k₀ j : ℕ) (l : List ℕ) (k : ℕ) : Type 0 where
  pub within : j ≤ drawn_edges d r.function
  pub higher : (m : ℕ) → j ≤ m → m < drawn_edges d r.function → r.vertex ≤ (drawn_edge d r.function m).from
  pub adds : (rows : List Row) → Placed rows table → AddsEdges l₀ k₀ (flat_map (along d rows i r) (take j (edges_of (graph_of d r.function)))) l k

module _ (d : List ℕ) (facts : DrawingFacts d) (i : ℕ) (r : Row) (fits : RowFits d i r) where
  abbrev f : ℕ
  f = r.function

  abbrev es : List Edge
  es = edges_of (graph_of d f)

  count : length es ≡ drawn_edges d f
  count = edge_count d f (row_drawn d facts i r fits)

  -- What an edge gives, by the vertex that it is from.
  away : (rows : List Row) (j : ℕ) → j < drawn_edges d f → ((drawn_edge d f j).from ≡ r.vertex → ⊥) → along d rows i r (get_or es j zero_edge) ≡ []
  away rows j h apart = rw (edge_at_lem d f (row_drawn d facts i r fits) j h, ne_eqb _ _ apart)

  on : (rows : List Row) (j : ℕ) → j < drawn_edges d f → (drawn_edge d f j).from ≡ r.vertex →
      along d rows i r (get_or es j zero_edge) ≡ edge i (number_in rows r.first (drawn_edge d f j).to) ∷ []
  on rows j h same = rw (edge_at_lem d f (row_drawn d facts i r fits) j h, eq-eqb _ _ same)

  -- Edges a to b, none of them from the row's vertex, give nothing.
  quiet : (rows : List Row) (a b : ℕ) → a ≤ b → b ≤ drawn_edges d f → ((j : ℕ) → a ≤ j → j < b → (drawn_edge d f j).from ≡ r.vertex → ⊥) →
      flat_map (along d rows i r) (take b es) ≡ flat_map (along d rows i r) (take a es)
  quiet rows a b low high apart =
      let e : b ≡ a + (b - a) = omega arith in
      ap (λ (n : ℕ). flat_map (along d rows i r) (take n es)) e
      ∙ flat_map_none (along d rows i r) es a (b - a) zero_edge (omega (arith, count)) (λ j from to. away rows j (omega arith) (apart j from (omega arith)))

  module _ (table : List ℕ) where
    pub leaving_begun : (j : ℕ) (l : List ℕ) (k : ℕ) → FirstFrom d f r.vertex j → LeavingTo d i r table l k j l k
    unfolding flat_map
    leaving_begun j l k first =
        record {
          within = first.within;
          higher = first.above;
          adds = λ rows placed.
              subst (λ (more : List Edge). AddsEdges l k more l k)
              (sym (quiet rows 0 j (omega arith) first.within (λ m from to same. let z : ⊥ = omega (arith, first.below m to) in elim z [ ])))
              (adds_none places.most_edges places.from edge_numbers l k);
        }

    module _ (l₀ : List ℕ) (k₀ j : ℕ) (l : List ℕ) (k : ℕ) (leaves : LeavingTo d i r table l₀ k₀ j l k) where
      -- Edge j is from the row's vertex, and it is put with the place of its end.
      pub leaving_more : i < places.most_vertices → j < drawn_edges d f → (drawn_edge d f j).from ≡ r.vertex → (to : ℕ) → to ≡ get_or table (spot r.first (drawn_edge d f j).to) 0 →
          (l' : List ℕ) (k' : ℕ) → AddsEdges l k (edge i to ∷ []) l' k' → LeavingTo d i r table l₀ k₀ (j + 1) l' k'
      leaving_more few h same to is l' k' put =
          let drawn : DrawnFacts d f = row_drawn d facts i r fits in
          record {
            within = omega arith;
            higher = λ m low high. leaves.higher m (omega arith) high;
            adds = λ rows placed.
                passed_more places.most_edges places.from edge_numbers (along d rows i r) es l₀ k₀ j l k l' k' zero_edge (edge i to ∷ []) (omega (arith, count))
                (on rows j h same
                ∙ ap (λ (n : ℕ). edge i n ∷ [])
                (sym (is ∙ placed r.first (drawn_edge d f j).to (row_first d facts i r fits few) (omega (arith, drawn.to j h, drawn.vertices)))))
                (leaves.adds rows placed) put;
          }

      -- No edge from j on is from the row's vertex.
      ended : ((m : ℕ) → j ≤ m → m < drawn_edges d f → (drawn_edge d f m).from ≡ r.vertex → ⊥) → (rows : List Row) → Placed rows table → AddsEdges l₀ k₀ (leaving d rows i r) l k
      ended apart rows placed =
          subst (λ (more : List Edge). AddsEdges l₀ k₀ more l k)
          (sym (quiet rows j (drawn_edges d f) leaves.within (omega arith) apart)
          ∙ ap (λ (s : List Edge). flat_map (along d rows i r) s) (take_all (drawn_edges d f) es (omega (arith, count))))
          (leaves.adds rows placed)

      pub leaving_past : j < drawn_edges d f → ((drawn_edge d f j).from ≡ r.vertex → ⊥) → (rows : List Row) → Placed rows table → AddsEdges l₀ k₀ (leaving d rows i r) l k
      leaving_past h apart =
          ended (λ m low high same.
          apart (omega (arith, leaves.higher j (omega arith) h, ascending d f (row_drawn d facts i r fits) j m low high)))

      pub leaving_all : drawn_edges d f ≤ j → (rows : List Row) → Placed rows table → AddsEdges l₀ k₀ (leaving d rows i r) l k
      leaving_all end = ended (λ m low high same. let z : ⊥ = omega arith in elim z [ ])
