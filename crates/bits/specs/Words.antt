-- Tables of words, the bits of a word being its members: what a step over such a table does.
use Rattle.std.specs.Prelude.{ℕ, ◌+◌, ◌≤◌, ◌<◌, ◌≡◌, List, [], ◌∷◌, Bool, true, false, ◌⊎◌, length, get_or}
use Rattle.model.specs.Results.{Member}

-- b is a member of word k.
abbrev pub Has : List ℕ → ℕ → ℕ → Type 0
Has ws k b = Member (get_or ws k 0) b

-- The words added up: what a step that changes a word raises.
unfoldable pub sum : List ℕ → ℕ
sum [] = 0
sum (w ∷ ws) = w + sum ws

abbrev pub one : Bool → ℕ
one true = 1
one false = 0

-- Members are only added. The sum does not fall, and it rises if a word changed.
pub record Grown (ws after : List ℕ) (changed : Bool) : Type 0 where
  pub raised : one changed + sum ws ≤ sum after
  pub kept : (k b : ℕ) → Has ws k b → Has after k b

-- A step adds the members that `Adds` names, and no other, and says whether that changed a word.
pub record Step (Adds : ℕ → ℕ → Type 0) (ws after : List ℕ) (changed : Bool) : Type 0 where
  pub long : length after ≡ length ws
  pub grown : Grown ws after changed
  pub same : changed ≡ false → after ≡ ws
  pub added : (k b : ℕ) → Adds k b → Has after k b
  pub only : (k b : ℕ) → Has after k b → Has ws k b ⊎ Adds k b

-- The members that `In` names of the first n words of a row, whose word f stands at place `at f` of the table.
abbrev pub Row : (ℕ → ℕ) → (ℕ → ℕ → Type 0) → ℕ → ℕ → ℕ → Type 0
Row at In n k b = (f : ℕ) × ((f < n) × ((k ≡ at f) × In f b))

abbrev pub RowMember : List ℕ → ℕ → ℕ → Type 0
RowMember row f b = Member (get_or row f 0) b

-- Each member is one that it should be.
abbrev pub Sound : (ℕ → ℕ → Type 0) → List ℕ → Type 0
Sound Good ws = (k b : ℕ) → Has ws k b → Good k b
