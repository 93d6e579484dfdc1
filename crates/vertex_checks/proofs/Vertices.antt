-- The check of a vertex, by whether there are more.
use Prim.Native.Nat.{ℕ, ◌≤◌, ◌<◌}
use Rattle.std.specs.Prelude.{Err, Ok}
use mathlib.Core.Path.{◌≡◌}
use native.Mathlib.Omega.{arith}
use lib.Dec.{ltb}
use borrow.Author.Tests.{lt-ltb, le-ltb, ltb-true}
use Rattle.model.specs.declared.Problem.{Problem}
use Rattle.model.specs.declared.Refusal.TheVariants.{UnknownVertex}
use Rattle.model.specs.Verdicts.{judge_vertex}
use Rattle.model.proofs.Answers.{refused_not_accepted}
use Rattle.model.proofs.Cases.{by_bool}

module _ (p : Problem) (v : ℕ) where
  -- n is the number of vertices.
  module _ (n : ℕ) (is_n : n ≡ p.vertex_count) where
    pub known : v < n → Ok tt ≡ judge_vertex p v
    known low = rw (lt-ltb v p.vertex_count (omega arith))

    pub unknown : n ≤ v → Err (UnknownVertex v) ≡ judge_vertex p v
    unknown high = rw (le-ltb v p.vertex_count (omega arith))

  -- A vertex that passed is one.
  pub passed_below : judge_vertex p v ≡ Ok tt → v < p.vertex_count
  passed_below ok =
      by_bool (ltb v p.vertex_count) (λ e. ltb-true v p.vertex_count e) (λ e. refused_not_accepted (rw e at ok))
