-- What is answered where a number cannot be read.
use Rattle.std.specs.Prelude.{ℕ, Result, Ok, Err}
use Rattle.model.specs.declared.Refusal.{Refusal}
use Rattle.model.specs.declared.Misread.{Misread}
use Rattle.model.specs.declared.Misread.TheVariants.{Ended, Misspelt}
use Rattle.model.specs.declared.Refusal.TheVariants as refusal

-- 1, the bytes end before the number does; 2, it is misspelt.
unfoldable pub misread : Misread → ℕ → ℕ → Refusal
misread Ended size at = refusal.EndsEarly size
misread Misspelt size at = refusal.Misspelt at

-- What was read with the position after it, or that refusal.
abbrev pub or_refused : Result (ℕ × ℕ) Misread → ℕ → ℕ → Result (ℕ × ℕ) Refusal
or_refused (Ok read) size at = Ok read
or_refused (Err why) size at = Err (misread why size at)
