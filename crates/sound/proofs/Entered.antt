-- Region checks: a run pays one only where it enters a function, and there the vertex is entered. So no visit pays more, its load apart, than its vertex is
-- charged.
use Prim.Native.Nat.{ℕ, ◌+◌, ◌≤◌}
use native.Mathlib.Omega.{arith}
use mathlib.Core.Path.{◌≡◌, refl, ap}
use mathlib.Core.Bool.{Bool, true, false, cond, or-true}
use mathlib.Core.List.{List}
use lib.ListN.{length, get_or}
use lib.Dec.{eqb}
use borrow.Author.Tests.{eq-eqb}
use Rattle.model.specs.declared.Edge.{Edge}
use Rattle.model.specs.declared.Problem.{Problem}
use Rattle.model.specs.Zero.{zero_edge}
use Rattle.model.specs.Graph.{edges_of}
use Rattle.model.specs.Costs.{function_of, own_cost, check_cost}
use Rattle.model.specs.Walks.{EdgeOf, Walk, start, step}
use Rattle.model.specs.Charges.{from_another, entered}
use Rattle.model.specs.Runs.{check_at}
use Rattle.model.proofs.Lists.{index_of}
use Rattle.model.proofs.Search.{exists_at}

module _ (p : Problem) where
  -- What a visit pays besides its load,
  abbrev pub toll_of : ℕ → List ℕ → ℕ
  toll_of v h = own_cost p v + check_at (function_of p) (check_cost p) v h

  -- and what its vertex is charged besides it.
  abbrev pub fixed : ℕ → ℕ
  fixed v = own_cost p v + cond (entered p v) (check_cost p (function_of p v)) 0

  -- An edge from another function makes its end entered.
  pub enters : (u v : ℕ) → EdgeOf p u v → eqb (function_of p u) (function_of p v) ≡ false → entered p v ≡ true
  unfolding entered
  enters u v d q =
      let (i, below, is) = index_of zero_edge d in
      let from : function_of p (get_or (edges_of p) i zero_edge).from ≡ function_of p u = ap (λ (e : Edge). function_of p e.from) is in
      let to : (get_or (edges_of p) i zero_edge).to ≡ v = ap (λ (e : Edge). e.to) is in
      let passes : from_another p v i ≡ true = rw (eq-eqb (get_or (edges_of p) i zero_edge).to v to, from, q) in
      rw (exists_at (length (edges_of p)) (from_another p v) i below passes) (or-true (eqb v 0))

  pub cheap : (v : ℕ) (h : List ℕ) → Walk (EdgeOf p) v h → toll_of v h ≤ fixed v
  unfolding check_at entered
  cheap _ _ start = omega arith
  cheap _ _ (step {u} {v} t d) = at (eqb (function_of p u) (function_of p v)) refl
    where
      at : (b : Bool) → eqb (function_of p u) (function_of p v) ≡ b →
          own_cost p v + cond b 0 (check_cost p (function_of p v)) ≤ own_cost p v + cond (entered p v) (check_cost p (function_of p v)) 0
      at true q = omega arith
      at false q = rw (enters u v d q) (omega arith)
