-- What writing asks.
use Rattle.std.specs.Prelude.{ℕ, ◌≤◌, ◌≡◌, List, length, Ok}
use Rattle.model.specs.File.{check_fields}

-- The numbers are judged good, and their file fits the buffer.
pub record Fits (l buf : List ℕ) : Type 0 where
  pub need : ℕ
  pub checked : check_fields l ≡ Ok need
  pub room : need ≤ length buf
