-- The table of places: which row is a vertex of the copy that begins at a row.
use Rattle.std.specs.Prelude.{ℕ, ◌+◌, ◌*◌, ◌≤◌, ◌<◌, ◌≡◌, List, length, get_or}
use Rattle.model.specs.declared.Row.{Row}
use Rattle.model.specs.Places as places
use Rattle.model.specs.Inlining.{row_at, number_in}
use Rattle.drawings.specs.Facts.{DrawingFacts}
use Rattle.rows.specs.Fit.{RowsFit}

-- Where the table has vertex w of the copy that begins at b.
abbrev pub spot : ℕ → ℕ → ℕ
spot b w = places.most_vertices * b + w

abbrev pub spot_count : ℕ
spot_count = places.most_vertices * places.most_vertices

-- The rows alone say which row that is, whatever the drawing.
abbrev pub Placed : List Row → List ℕ → Type 0
Placed rows table = (b w : ℕ) → b < places.most_vertices → w < places.most_vertices → get_or table (spot b w) 0 ≡ number_in rows b w

-- Each row has its spot in the table.
pub record Inside (rows : List Row) : Type 0 where
  pub first : (i : ℕ) → i < length rows → (row_at rows i).first < places.most_vertices
  pub vertex : (i : ℕ) → i < length rows → (row_at rows i).vertex < places.most_vertices

-- The rows of a drawing, no more than a problem may have vertices, and their table.
pub record Rowed (d : List ℕ) (rows : List Row) (table : List ℕ) : Type 0 where
  pub facts : DrawingFacts d
  pub fit : RowsFit d rows
  pub few : length rows ≤ places.most_vertices
  pub placed : Placed rows table
