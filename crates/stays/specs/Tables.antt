-- Numbers in lent tables, kept up to a cap: by vertex, and for a loop by its header.
use Rattle.std.specs.Prelude.{ℕ, ◌+◌, ◌≤◌, List, get_or}
use Rattle.model.specs.declared.Loop.{Loop}
use Rattle.model.specs.Results.{bound_limit}

-- One more than the bound's limit.
abbrev pub cap : ℕ
cap = bound_limit + 1

pub record Capped (s : List ℕ) : Type 0 where
  pub most : (k : ℕ) → get_or s k 0 ≤ cap

unfoldable pub by_vertex : List ℕ → ℕ → ℕ
by_vertex d v = get_or d v 0

unfoldable pub by_header : List ℕ → Loop → ℕ
by_header e k = get_or e k.header 0
