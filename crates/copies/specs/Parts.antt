-- The parts of an inlined problem's numbers: what comes before its vertices, and its vertices.
use Rattle.std.specs.Prelude.{ℕ, ◌≤◌, ◌<◌, length}
use mathlib.Core.List.{List, ◌∷◌, flat_map}
use Rattle.model.specs.declared.Row.{Row}
use Rattle.model.specs.Places as places
use Rattle.model.specs.Numbers.{function_numbers, vertex_numbers, table}
use Rattle.model.specs.Drawings.{drawn_scratchpad, drawn_functions, drawn_function}
use Rattle.model.specs.Inlining.{row_at}
use Rattle.model.specs.Inlined.{copied}
use Rattle.drawings.specs.Facts.{DrawingFacts}
use Rattle.rows.specs.Fit.{RowsFit}

-- The scratchpad size, and the functions.
abbrev pub head_numbers : List ℕ → List ℕ
head_numbers d = drawn_scratchpad d ∷ drawn_functions d ∷ flat_map function_numbers (table (drawn_functions d) (drawn_function d))

-- The number of rows, and the rows as vertices.
abbrev pub row_numbers : List ℕ → List Row → List ℕ
row_numbers d rows = length rows ∷ flat_map vertex_numbers (table (length rows) (λ i. copied d (row_at rows i)))

-- What reading a row's own cost needs.
pub record Known (r : Row) : Type 0 where
  pub function : r.function < places.most_functions
  pub vertex : r.vertex < places.most_vertices

-- What storing the rows needs.
pub record Copied (d : List ℕ) (rows : List Row) : Type 0 where
  pub facts : DrawingFacts d
  pub fit : RowsFit d rows
  pub few : length rows ≤ places.most_vertices
