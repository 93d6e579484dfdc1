-- The table's sets copied to the lent words.
use Rattle.std.specs.Prelude.{ℕ, ◌+◌, ◌*◌, ◌≤◌, ◌<◌, ◌≡◌, List, length, get_or}
use Rattle.sets.specs.Sets.{set_at}

-- The first `count` words of vertex v stand from `at` on, and the other words are as they were.
pub record RowCopied (table : List ℕ) (v count at : ℕ) (words after : List ℕ) : Type 0 where
  pub long : length after ≡ length words
  pub copied : (f : ℕ) → f < count → get_or after (at + f) 0 ≡ get_or table (set_at v f) 0
  pub before : (k : ℕ) → k < at → get_or after k 0 ≡ get_or words k 0
  pub later : (k : ℕ) → at + count ≤ k → get_or after k 0 ≡ get_or words k 0

-- So for each vertex below `vertices`, one behind the other.
pub record Copied (table : List ℕ) (vertices count : ℕ) (words after : List ℕ) : Type 0 where
  pub long : length after ≡ length words
  pub copied : (v f : ℕ) → v < vertices → f < count → get_or after (v * count + f) 0 ≡ get_or table (set_at v f) 0
  pub later : (k : ℕ) → vertices * count ≤ k → get_or after k 0 ≡ get_or words k 0
