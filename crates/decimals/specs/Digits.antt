-- How many digits a number of 64 bits has at most.
use Rattle.std.specs.Prelude.{ℕ}

abbrev pub most_digits : ℕ
most_digits = 20
