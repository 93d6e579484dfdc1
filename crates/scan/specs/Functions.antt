-- Functions, read field by field without a look at the table.
use Rattle.std.specs.Prelude.{ℕ, ◌+◌, ◌≤◌, ◌<◌, ◌≡◌, List}
use Rattle.model.specs.declared.Field.{Field}
use Rattle.model.specs.File.{read_from}
use Rattle.edge_runs.specs.Edges.{Readable}
use Rattle.model.specs.Rows as rows

-- A field of a function that others follow.
pub record FunctionField (c : Field) : Type 0 where
  pub low : rows.size ≤ c.row
  pub high : c.row ≤ rows.check
  pub more : 0 < c.left

-- From the field c, with the numbers l, so many fields were read on to d, which left m; and what is left to read is the same.
pub record Further (s : List ℕ) (c : Field) (at start : ℕ) (l : List ℕ) (d : Field) (at' start' : ℕ) (m : List ℕ) : Type 0 where
  pub count : ℕ
  pub readable : Readable s at' d m
  pub going : d.row < rows.end
  pub behind : c.place + count ≤ d.place
  pub same : (n : ℕ) → read_from (n + count) s at start c l ≡ read_from n s at' start' d m
