-- Early vertices, told by words: word v of `fresh` has the functions that a walk to v need not have visited, and word v of a table of early vertices the
-- function of v, if v is early.
use Rattle.std.specs.Prelude.{ℕ, ◌*◌, ◌^◌, ◌≤◌, ◌<◌, ◌≡◌, List, Bool, cond, not, true, false, ◌&&◌, ◌↔◌, get_or, ltb}
use Rattle.model.specs.declared.Problem.{Problem}
use Rattle.model.specs.Costs.{function_of, load_cost}
use Rattle.model.specs.Charges.{first_loads}
use Rattle.model.specs.Limits as limits
use Rattle.model.specs.Places as places
use Rattle.model.specs.Results.{Member}
use Rattle.bits.specs.Tests.{has}
use Rattle.sound.specs.Decide.{early_test}
use Rattle.charges.specs.Tests.{shared_test, flagged}

-- A walk comes to v with no earlier vertex of its function.
abbrev pub fresh_test : List ℕ → Problem → ℕ → Bool
fresh_test ws p v = has (get_or ws v 0) (function_of p v)

-- v is not flagged as contested, and reached with no earlier vertex of its function.
unfoldable pub early_by : Problem → List ℕ → List ℕ → ℕ → Bool
early_by p flags fresh v = not (flagged flags v) && fresh_test fresh p v

-- The same by what the flags say: v is uncontested, and reached with no earlier vertex of its function.
unfoldable pub early_told : Problem → List ℕ → List ℕ → List ℕ → ℕ → Bool
early_told p rivals held fresh = early_test p (shared_test rivals held p) (fresh_test fresh p)

-- The function of v as the only member, if v is early.
unfoldable pub early_word : Problem → (ℕ → Bool) → ℕ → ℕ
early_word p early v = cond (early v) (2 ^ function_of p v) 0

pub record EarlyTable (p : Problem) (early : ℕ → Bool) (words : List ℕ) : Type 0 where
  pub word : (v : ℕ) → v < p.vertex_count → get_or words v 0 ≡ early_word p early v

-- Which vertices are early by a table.
unfoldable pub early_in : List ℕ → ℕ → Bool
early_in words v = ltb 0 (get_or words v 0)

-- A table of early vertices, none of which is flagged as contested.
pub record EarlyApart (p : Problem) (flags words : List ℕ) : Type 0 where
  pub table : EarlyTable p (early_in words) words
  pub apart : (v : ℕ) → v < p.vertex_count → early_in words v ≡ true → flagged flags v ≡ false

-- A word of the members that the words from `first` on, up to `end`, have.
pub record Gathered (words : List ℕ) (first end word : ℕ) : Type 0 where
  pub member : (f : ℕ) → Member word f ↔ ((v : ℕ) × (first ≤ v) × (v < end) × Member (get_or words v 0) f)

-- What a function adds to the loads of those that pass a test.
unfoldable pub first_load : Problem → (ℕ → Bool) → ℕ → ℕ
first_load p test f = cond (test f) (load_cost p f) 0

-- The load costs of all functions come to no more.
abbrev pub first_limit : ℕ
first_limit = places.most_functions * limits.most_cycles

pub record LoadedFirst (p : Problem) (test : ℕ → Bool) (loads : ℕ) : Type 0 where
  pub loads_are : loads ≡ first_loads p test
  pub small : loads ≤ first_limit
