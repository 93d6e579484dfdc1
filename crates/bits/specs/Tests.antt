-- Bits of words, as tests.
use Rattle.std.specs.Prelude.{ℕ, ◌/◌, ◌%◌, ◌^◌, Bool, eqb}

-- Whether bit k of w is set.
unfoldable pub has : ℕ → ℕ → Bool
has w k = eqb (w / 2 ^ k % 2) 1
