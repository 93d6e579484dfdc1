-- The answer whether a vertex is contested, put together from what its parts answer.
use Prim.Native.Nat.{ℕ, ◌<◌}
use mathlib.Core.Path.{◌≡◌}
use mathlib.Core.List.{List}
use mathlib.Core.Bool.{Bool}
use lib.ListN.{get_or}
use lib.Dec.{ltb}
use lib.Bits.{bit_and}
use borrow.Author.Tests.{lt-ltb}
use Rattle.model.specs.declared.Problem.{Problem}
use Rattle.model.specs.Costs.{function_of}
use Rattle.sound.specs.Decide.{contested_test}
use Rattle.charges.specs.Tests.{contested_by}

-- A vertex is contested as the two words say.
module _ (p : Problem) (rivals held : List ℕ) (v : ℕ) where
  pub contested_told : {f : ℕ} {t : Bool} → v < p.vertex_count → f ≡ function_of p v → t ≡ ltb 0 (bit_and (get_or held v 0) (get_or rivals f 0)) →
      t ≡ contested_by p rivals held v
  unfolding contested_by contested_test
  contested_told below of_v e = rw (lt-ltb v p.vertex_count below, ← of_v) e
