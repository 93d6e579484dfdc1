-- The pieces that are read from the front of a text, whose position is given: fixed words, and a number.
use Rattle.std.specs.Prelude.{ℕ, ◌+◌, cond, List, [], ◌∷◌, eqb, Err, None, Ok, Some, Result, Option}
use Rattle.grammar.specs.Numerals.{numeral}

unfoldable pub pass_words : List ℕ → List ℕ → ℕ → Result ℕ ℕ
pass_words [] s at = Ok at
pass_words (b ∷ w) [] at = Err at
pass_words (b ∷ w) (c ∷ s) at = cond (eqb c b) (pass_words w s (at + 1)) (Err at)

abbrev pub found : ℕ → List ℕ → ℕ → Option (ℕ × ℕ)
found n s at = Some (n, at)

abbrev pub missing : ℕ → Option (ℕ × ℕ)
missing at = None

unfoldable pub read_value : ℕ → ℕ → List ℕ → ℕ → Option (ℕ × ℕ)
read_value least most s at = numeral least most s at missing found
