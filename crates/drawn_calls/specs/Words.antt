-- A word for each function, its bits the functions that it leads to, and one function more let through.
use Rattle.std.specs.Prelude.{ℕ, ◌<◌, ◌≡◌, List, Bool, ◌&&◌, ◌||◌, length, get_or}
use Rattle.model.specs.Places as places
use Rattle.bits.specs.Tests.{has}

-- The word of f has g.
abbrev pub told : List ℕ → ℕ → ℕ → Bool
told words f g = has (get_or words f 0) g

-- The words of the first n functions tell what leads where.
pub record Tells (leads : ℕ → ℕ → Bool) (n : ℕ) (words : List ℕ) : Type 0 where
  pub long : length words ≡ places.most_functions
  pub bit : (f g : ℕ) → f < n → told words f g ≡ leads f g

-- By way of k too.
abbrev pub let_through : (ℕ → ℕ → Bool) → ℕ → ℕ → ℕ → Bool
let_through leads k f g = leads f g || (leads f k && leads k g)
