-- What the rows of an inlined drawing satisfy: each is a vertex of a drawn graph, and its copy begins no later.
use Rattle.std.specs.Prelude.{ℕ, ◌≤◌, ◌<◌, ◌≡◌, List, length, take}
use Rattle.model.specs.declared.Row.{Row}
use Rattle.model.specs.Drawings.{drawn_functions, drawn_count}
use Rattle.model.specs.Inlining.{row_at}
use Rattle.model.specs.Inlined.{inlined_rows}

pub record RowFits (d : List ℕ) (i : ℕ) (r : Row) : Type 0 where
  pub function : r.function < drawn_functions d
  pub vertex : r.vertex < drawn_count d r.function
  pub first : r.first ≤ i

pub record RowsFit (d : List ℕ) (rows : List Row) : Type 0 where
  pub some_row : 1 ≤ length rows
  pub each : (i : ℕ) → i < length rows → RowFits d i (row_at rows i)

-- The rows of an inlined drawing stand at the front of an array; one row more than a problem may have tells that there are too many.
pub record RowsMade (d : List ℕ) (rows : List Row) (count : ℕ) : Type 0 where
  pub count_is : count ≡ length (inlined_rows d)
  pub are : take count rows ≡ inlined_rows d
  pub fit : RowsFit d (inlined_rows d)
