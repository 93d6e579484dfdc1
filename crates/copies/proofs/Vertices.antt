-- The loop that stores the rows as vertices: what it reads of a row is what the definition says.
use Prim.Native.Nat.{ℕ, ◌+◌, ◌*◌, ◌≤◌, ◌<◌}
use mathlib.Core.Path.{◌≡◌, refl, sym, ap, ◌∙◌}
use mathlib.Core.List.{List}
use native.Mathlib.Omega.{arith}
use lib.ListN.{length, take, set}
use lib.Seq.{sets}
use Rattle.model.specs.declared.Row.{Row}
use Rattle.model.specs.declared.Vertex.{Vertex}
use Rattle.model.specs.Places as places
use Rattle.model.specs.Zero.{cycles, zero_vertex}
use Rattle.model.specs.Numbers.{vertex_numbers, table}
use Rattle.model.specs.Costs.{own_cost}
use Rattle.model.specs.Drawings.{drawn_item, drawn_count, drawn_vertex, graph_of}
use Rattle.model.specs.Inlining.{row_at}
use Rattle.model.specs.Inlined.{copied}
use Rattle.model.proofs.Lists.{get_or-take-table}
use Rattle.drawings.specs.Facts.{DrawingFacts}
use Rattle.numbers.proofs.Places.{Storing, stored_all}
use Rattle.rows.specs.Fit.{RowFits, RowsMade}
use Rattle.copies.specs.Parts.{Known, Copied, row_numbers}
use Rattle.numbers.proofs.Tables.{table_none, table_more}

module _ (d : List ℕ) where
  pub drawn_cost : (f v : ℕ) → v < drawn_count d f → drawn_count d f ≤ places.most_vertices →
      own_cost (graph_of d f) v ≡ drawn_item d f places.cost places.vertex_width v
  unfolding graph_of
  drawn_cost f v h few = ap (λ (x : Vertex). x.cost.0) (get_or-take-table (drawn_count d f) places.most_vertices (drawn_vertex d f) v zero_vertex few h)

  module _ (rows : List Row) where
    abbrev vertex : ℕ → Vertex
    vertex i = copied d (row_at rows i)

    -- The first i rows are stored.
    abbrev pub CopiedTo : List ℕ → ℕ → List ℕ → Type 0
    CopiedTo l₀ i l = Storing vertex_numbers (length rows) places.function (table (length rows) vertex) l₀ i l

    pub none_copied : (l₀ : List ℕ) → CopiedTo l₀ 0 l₀
    none_copied l₀ = table_none vertex_numbers places.vertex_width (λ v. refl) (length rows) places.function vertex l₀

    module _ (given : Copied d rows) (i : ℕ) (h : i < length rows) where
      fit : RowFits d i (row_at rows i)
      fit = given.fit.each i h

      abbrev copy : ℕ → Vertex
      copy cost = record { function = (row_at rows i).function; cost = cycles cost }

      pub known : Known (row_at rows i)
      known =
          record {
            function = omega (arith, fit.function, given.facts.functions);
            vertex = omega (arith, fit.vertex, (given.facts.drawn (row_at rows i).function fit.function).vertices);
          }

      pub one_copied : (l₀ l l' : List ℕ) (cost : ℕ) → CopiedTo l₀ i l →
          cost ≡ drawn_item d (row_at rows i).function places.cost places.vertex_width (row_at rows i).vertex →
          l' ≡ sets l (places.function + places.vertex_width * i) (vertex_numbers (copy cost)) → CopiedTo l₀ (i + 1) l'
      one_copied l₀ l l' cost so_far e put =
          table_more vertex_numbers places.vertex_width (λ v. refl) (length rows) places.function vertex l₀ i (copy cost) l l' h so_far
          (ap copy (e ∙ sym (drawn_cost (row_at rows i).function (row_at rows i).vertex fit.vertex (given.facts.drawn (row_at rows i).function fit.function).vertices)))
          put

    pub all_copied : (l₀ l : List ℕ) (i : ℕ) → length rows ≤ i → CopiedTo (set l₀ places.vertex_count (length rows)) i l →
        l ≡ sets l₀ places.vertex_count (row_numbers d rows)
    all_copied l₀ l i h so_far = (stored_all vertex_numbers (length rows) places.function (table (length rows) vertex) (set l₀ places.vertex_count (length rows)) i l h so_far).is

-- The rows that were made can be stored where they are not too many.
pub may_copy : (d : List ℕ) (rows : List Row) (count : ℕ) → DrawingFacts d → RowsMade d rows count → count ≤ places.most_vertices → Copied d (take count rows)
may_copy d rows count facts made few = record { facts = facts; fit = rw made.are made.fit; few = rw made.are (omega (arith, made.count_is)) }
