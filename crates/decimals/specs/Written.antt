-- Bytes written into a buffer.
use Rattle.std.specs.Prelude.{ℕ, ◌+◌, ◌≤◌, ◌≡◌, List, length}
use Rattle.std.proofs.lemmas.List.Edits.{sets}

-- A buffer with room for the bytes xs from a position on has them there, and is else as it was; `next` is the position after them.
pub record Written (before : List ℕ) (at : ℕ) (xs after : List ℕ) (next : ℕ) : Type 0 where
  pub room : at + length xs ≤ length before
  pub stored : after ≡ sets before at xs
  pub behind : next ≡ at + length xs
