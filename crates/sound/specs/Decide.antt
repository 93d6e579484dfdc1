-- Contested and early as tests on tables: `shared v` tells, of a vertex, that it is contested, `fresh v` that a walk comes to v with no earlier vertex of
-- its function.
use Rattle.std.specs.Prelude.{ℕ, Bool, not, ◌&&◌, ltb}
use Rattle.model.specs.declared.Problem.{Problem}

module _ (p : Problem) (shared : ℕ → Bool) where
  unfoldable pub contested_test : ℕ → Bool
  contested_test v = ltb v p.vertex_count && shared v

  unfoldable pub early_test : (ℕ → Bool) → ℕ → Bool
  early_test fresh v = ltb v p.vertex_count && (not (contested_test v) && fresh v)
