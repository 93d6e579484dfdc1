-- Contested, told by words: word f of `rivals` has the other functions of the region of f, word v of `held` the functions that a walk to v may find held.
-- Flags keep a test's answers, 1 where it passes, and multiply the check cost and the load cost in a visit's price.
use Rattle.std.specs.Prelude.{ℕ, ◌+◌, ◌*◌, ◌≤◌, ◌<◌, ◌≡◌, List, Bool, length, get_or, eqb, ltb}
use Rattle.std.specs.Int.Bits.{bit_and}
use Rattle.model.specs.declared.Problem.{Problem}
use Rattle.model.specs.Costs.{function_of, own_cost, load_cost, check_cost, how_many}
use Rattle.model.specs.Charges.{visit_charge}
use Rattle.model.specs.Limits as limits
use Rattle.model.specs.Places as places
use Rattle.sound.specs.Decide.{contested_test}
use Rattle.entered.specs.Flags.{FlagsTell}

-- A walk may come to v with a rival of its function held.
abbrev pub shared_test : List ℕ → List ℕ → Problem → ℕ → Bool
shared_test rivals held p v = ltb 0 (bit_and (get_or held v 0) (get_or rivals (function_of p v) 0))

unfoldable pub contested_by : Problem → List ℕ → List ℕ → ℕ → Bool
contested_by p rivals held = contested_test p (shared_test rivals held p)

-- The flags, and how many of them are set.
pub record Tallied (n : ℕ) (test : ℕ → Bool) (flags : List ℕ) (tally : ℕ) : Type 0 where
  pub told : FlagsTell n test flags
  pub tally_is : tally ≡ how_many n test

-- Each of the first n flags is 0 or 1.
pub record Flags (n : ℕ) (flags : List ℕ) : Type 0 where
  pub low : (v : ℕ) → v < n → get_or flags v 0 ≤ 1

-- The test that flags keep.
unfoldable pub flagged : List ℕ → ℕ → Bool
flagged flags v = eqb (get_or flags v 0) 1

-- A visit's *price*, with a product for its load as in formula (7) of document 003: own cost, plus the flag of entered vertices times check cost, plus flag
-- times load cost.
unfoldable pub price : Problem → (entered flags : List ℕ) → ℕ → ℕ
price p entered flags v = own_cost p v + get_or entered v 0 * check_cost p (function_of p v) + get_or flags v 0 * load_cost p (function_of p v)

-- An own cost, a check cost and a load cost come to no more.
abbrev pub charge_limit : ℕ
charge_limit = limits.most_cycles + limits.most_cycles + limits.most_check

-- A table of visit charges.
pub record Charged (p : Problem) (contested : ℕ → Bool) (charge : List ℕ) : Type 0 where
  pub long : length charge ≡ places.most_vertices
  pub charged : (v : ℕ) → v < p.vertex_count → get_or charge v 0 ≡ visit_charge p contested v
  pub spare : (v : ℕ) → p.vertex_count ≤ v → get_or charge v 0 ≡ 0
  pub small : (v : ℕ) → get_or charge v 0 ≤ charge_limit
