-- One problem from a drawing (2/14): its vertices, edges and loops.
use Rattle.std.specs.Prelude.{ℕ, zero, suc, ◌+◌, ◌-◌, cond, ◌&&◌, length, get_or, eqb, ltb, Option, Some, None}
use mathlib.Core.List.{List, [], ◌∷◌, ◌++◌, flat_map}
use Rattle.model.specs.declared.Edge.{Edge}
use Rattle.model.specs.declared.Loop.{Loop}
use Rattle.model.specs.declared.Row.{Row}
use Rattle.model.specs.Numbers.{table}
use Rattle.model.specs.Graph.{edges_of, loops_of}
use Rattle.model.specs.Search.{lowest_below}
use Rattle.model.specs.Drawings.{drawn_count, called_by, graph_of}

-- A vertex of the result is a row: a vertex of a function's copy, and the number of the copy's first vertex. The call vertex of a copy is the one before its first.
abbrev pub row : ℕ → ℕ → ℕ → Row
row f v b = record { function = f; vertex = v; first = b }

abbrev pub row_at : List Row → ℕ → Row
row_at rows i = get_or rows i (row 0 0 0)

abbrev pub extended : List Row → Option Row → List Row
extended rows None = rows
extended rows (Some r) = rows ++ (r ∷ [])

-- Vertex w of the copy that begins at b.
unfoldable pub number_in : List Row → ℕ → ℕ → ℕ
number_in rows b w = lowest_below (length rows) (λ j. eqb (row_at rows j).first b && eqb (row_at rows j).vertex w)

module _ (d : List ℕ) where
  -- A copy of the callee follows its call vertex; behind a copy's last vertex its caller's copy goes on.
  abbrev pub behind : Row → Row → Option Row
  behind r p =
      cond (ltb (r.vertex + 1) (drawn_count d r.function)) (Some (row r.function (r.vertex + 1) r.first))
      (cond (eqb r.first 0) None (Some (row p.function (p.vertex + 1) p.first)))

  abbrev pub after : Option ℕ → Row → Row → ℕ → Option Row
  after (Some g) r p i = Some (row g 0 (i + 1))
  after None r p i = behind r p

  unfoldable pub row_after : List Row → ℕ → Option Row
  row_after rows i = after (called_by d (row_at rows i).function (row_at rows i).vertex) (row_at rows i) (row_at rows ((row_at rows i).first - 1)) i

  unfoldable pub one_more : List Row → List Row
  one_more rows = extended rows (row_after rows (length rows - 1))

  -- The first row, and at most n after it.
  unfoldable pub rows_up_to : ℕ → List Row
  rows_up_to zero = row 0 0 0 ∷ []
  rows_up_to (suc n) = one_more (rows_up_to n)

  module _ (rows : List Row) where
    abbrev pub along : ℕ → Row → Edge → List Edge
    along i r e = cond (eqb e.from r.vertex) (record { from = i; to = number_in rows r.first e.to } ∷ []) []

    -- The edges of a vertex's graph, from that vertex, in its copy.
    abbrev pub leaving : ℕ → Row → List Edge
    leaving i r = flat_map (along i r) (edges_of (graph_of d r.function))

    -- A copy's last vertex takes over the call's edges out.
    abbrev pub out_of : ℕ → Row → List Edge
    out_of i r =
        cond (ltb (r.vertex + 1) (drawn_count d r.function)) (leaving i r)
        (cond (eqb r.first 0) [] (leaving i (row_at rows (r.first - 1))))

    -- The call vertex leads to the copy's first vertex.
    abbrev pub edges_from : Option ℕ → ℕ → Row → List Edge
    edges_from (Some g) i r = record { from = i; to = i + 1 } ∷ []
    edges_from None i r = out_of i r

    unfoldable pub inlined_edges : List Edge
    inlined_edges = flat_map (λ i. edges_from (called_by d (row_at rows i).function (row_at rows i).vertex) i (row_at rows i)) (table (length rows) (λ i. i))

    -- A loop range that holds a call vertex also holds its copy: it ends before the vertex that follows its last one in the copy.
    abbrev pub around : ℕ → Row → Loop → List Loop
    around i r l = cond (eqb l.header r.vertex) (record { header = i; last = number_in rows r.first (l.last + 1) - 1; bound = l.bound } ∷ []) []

    unfoldable pub inlined_loops : List Loop
    inlined_loops = flat_map (λ i. flat_map (around i (row_at rows i)) (loops_of (graph_of d (row_at rows i).function))) (table (length rows) (λ i. i))
