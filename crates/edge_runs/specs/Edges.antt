-- A run of edges that is taken at once.
use Rattle.std.specs.Prelude.{ℕ, ◌+◌, ◌*◌, ◌-◌, ◌≤◌, ◌<◌, ◌≡◌, List, true, length, get_or}
use Rattle.model.specs.declared.Field.{Field}
use Rattle.model.specs.File.{number_count, edge_before, edge_span, read_from, check_from}
use Rattle.fields.specs.Valid.{Valid}
use Rattle.model.specs.Places as places
use Rattle.model.specs.Rows as rows

-- The field k items further on in its list, where an item has two numbers: vertices have as many as edges.
abbrev pub past_pairs : Field → ℕ → Field
past_pairs c k = record { row = c.row; place = c.place + places.edge_width * k; left = c.left - k }

-- Where the second edge starts.
abbrev pub second_edge : ℕ
second_edge = places.from + places.edge_width

-- A run may start at a field: an edge's first number, behind the first edge.
pub record Opens (c : Field) (vertices : ℕ) : Type 0 where
  pub row : c.row ≡ rows.from
  pub late : second_edge ≤ c.place
  pub few : vertices ≤ places.most_vertices

-- An edge may stand at a place: its numbers are vertices, and it comes after the edge before it.
pub record Follows (l : List ℕ) (place vertices from to : ℕ) : Type 0 where
  pub from_vertex : from < vertices
  pub to_vertex : to < vertices
  pub order : edge_before (get_or l (place - places.edge_width) 0) (get_or l (place - places.edge_width + edge_span) 0) from to ≡ true

-- What reading a run asks of the bytes, the field and the numbers.
pub record Readable (s : List ℕ) (at : ℕ) (c : Field) (l : List ℕ) : Type 0 where
  pub inside : at ≤ length s
  pub valid : Valid c
  pub long : length l ≡ number_count

-- The numbers l became m by a run of k items of two numbers, which ends at a position, and what is left to read is the same.
pub record PairsRead (s : List ℕ) (at : ℕ) (c : Field) (l m : List ℕ) (k end : ℕ) : Type 0 where
  pub few : k ≤ c.left
  pub inside : end ≤ length s
  pub valid : Valid (past_pairs c k)
  pub long : length m ≡ number_count
  pub same : (n start : ℕ) → read_from (n + places.edge_width * k) s at start c l ≡ read_from n s end start (past_pairs c k) m

-- What reading one such item asks: others follow it in its list.
pub record AtItem (s : List ℕ) (at : ℕ) (c : Field) (l : List ℕ) : Type 0 where
  pub readable : Readable s at c l
  pub more : 0 < c.left

-- One item is read, which ends at a position; or the position is 0, and nothing is read.
pub record ItemTaken (s : List ℕ) (at : ℕ) (c : Field) (l m : List ℕ) (end : ℕ) : Type 0 where
  pub left : end ≡ 0 → m ≡ l
  pub taken : 0 < end → PairsRead s at c l m 1 end

-- A run of k edges is read, a byte a number.
abbrev pub EdgesRead : List ℕ → ℕ → Field → List ℕ → List ℕ → ℕ → Type 0
EdgesRead s at c l m k = PairsRead s at c l m k (at + places.edge_width * k)

-- A run of k edges of the numbers l is judged good, a byte a number, and what is left to judge is the same.
pub record EdgesChecked (c : Field) (l : List ℕ) (k : ℕ) : Type 0 where
  pub few : k ≤ c.left
  pub valid : Valid (past_pairs c k)
  pub same : (n at start : ℕ) → check_from (n + places.edge_width * k) at start c l ≡ check_from n (at + places.edge_width * k) start (past_pairs c k) l
