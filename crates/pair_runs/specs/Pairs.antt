-- Items of two numbers: vertices, in no order, and edges.
use Rattle.std.specs.Prelude.{ℕ, List}
use Rattle.model.specs.declared.Field.{Field}
use Rattle.edge_runs.specs.Edges.{AtItem}
use Rattle.model.specs.Rows as rows

-- The row of the first number of a vertex.
pub data Pair : ℕ → Type 0 where
  vertices : Pair rows.function

-- What reading one asks: a field of its first number, with others to follow in the list.
pub record AtPair (s : List ℕ) (at : ℕ) (c : Field) (l : List ℕ) : Type 0 where
  pub item : AtItem s at c l
  pub pair : Pair c.row

-- The rows of the first numbers of all items of two numbers.
pub data Item : ℕ → Type 0 where
  pair : {row : ℕ} → Pair row → Item row
  edge : Item rows.from
