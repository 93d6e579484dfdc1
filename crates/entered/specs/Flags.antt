-- Flags keep a test's answers, 1 where it passes.
use Rattle.std.specs.Prelude.{ℕ, ◌<◌, ◌≡◌, List, Bool, cond, length, get_or}
use Rattle.model.specs.Places as places

-- The flags keep a test's answers for the numbers below n.
pub record FlagsTell (n : ℕ) (test : ℕ → Bool) (flags : List ℕ) : Type 0 where
  pub long : length flags ≡ places.most_vertices
  pub flag : (v : ℕ) → v < n → get_or flags v 0 ≡ cond (test v) 1 0
