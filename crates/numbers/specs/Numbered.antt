-- What the numbers of a problem are, and that the problem's arrays have their lengths.
use Rattle.std.specs.Prelude.{ℕ, ◌≡◌, length}
use mathlib.Core.List.{List, flat_map}
use Rattle.std.proofs.lemmas.List.Edits.{sets}
use Rattle.model.specs.declared.Problem.{Problem}
use Rattle.model.specs.Numbers.{numbers_of, Sized}

pub record Numbered (p : Problem) (l : List ℕ) : Type 0 where
  pub is : l ≡ numbers_of p
  pub sized : Sized p

-- A list of n items is stored from a base on, each item's numbers after those of the item before.
pub record Stored {A : Type 0} (numbers : A → List ℕ) (n base : ℕ) (items : List A) (before after : List ℕ) : Type 0 where
  pub long : length items ≡ n
  pub is : after ≡ sets before base (flat_map numbers items)
