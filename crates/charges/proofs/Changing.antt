-- A contested vertex is context-changing (003, Definition 2): it has an edge from a vertex of another function. So formula (7) of document 003 comes to the same
-- without its factor for that, and a vertex that is charged its load is charged its region check too.
use Prim.Native.Nat.{ℕ}
use mathlib.Core.Path.{◌≡◌}
use mathlib.Core.Bool.{true}
use mathlib.Core.List.Memᴰ
use mathlib.Core.List.{List, Memᴰ}
use borrow.Author.Tests.{ne_eqb}
use Rattle.model.specs.declared.Problem.{Problem}
use Rattle.model.specs.Costs.{function_of}
use Rattle.model.specs.Walks.{EdgeOf, Walk, start, step}
use Rattle.model.specs.Interference.{since, Contested}
use Rattle.model.specs.Charges.{entered}
use Rattle.sound.proofs.Flow.{since_cases}
use Rattle.sound.proofs.Entered.{enters}

module _ (fn : ℕ → ℕ) (Edge : ℕ → ℕ → Type 0) where
  -- A walk that arrives with something visited since f came from a vertex of another function.
  arrived : {f g v : ℕ} {h : List ℕ} → Walk Edge v h → Memᴰ g (since fn f h) → (u : ℕ) × Edge u v × (fn u ≡ f → ⊥)
  unfolding since
  arrived start member = absurd (Memᴰ.not-nil member)
  arrived {f} {g} (step {u} {v} {h} walk edge) member = (u, edge, (since_cases fn f g u h member).0)

  pub contested_changing : (region : ℕ → ℕ) (v : ℕ) → Contested fn Edge region v → (u : ℕ) × Edge u v × (fn u ≡ fn v → ⊥)
  contested_changing region v (g, (ne, (h, walk, member)), same) = arrived walk member

pub contested_entered : (p : Problem) (region : ℕ → ℕ) (v : ℕ) → Contested (function_of p) (EdgeOf p) region v → entered p v ≡ true
contested_entered p region v contested =
    let (u, edge, ne) = contested_changing (function_of p) (EdgeOf p) region v contested in
    enters p u v edge (ne_eqb (function_of p u) (function_of p v) ne)
