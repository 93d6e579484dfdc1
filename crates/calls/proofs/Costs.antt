-- A run and its walk show the same functions and own costs, and end together.
use Prim.Native.Nat.{ℕ, suc, ◌-◌}
use mathlib.Core.Path.{◌≡◌, refl, ap, ap₂}
use mathlib.Core.List.{List, [], ◌∷◌, map}
use native.Mathlib.Omega.{arith}
use Rattle.model.specs.Costs.{own_cost}
use Rattle.model.specs.Walks.{last_vertex}
use Rattle.model.specs.Drawings.{drawn_count, graph_of}
use Rattle.calls.proofs.States.{nobody, State, spot, Valid, at, base, number, Drawn}
use Rattle.calls.proofs.Number.{size_last, at_number, one_state}
use Rattle.calls.proofs.Runs.{Run, begin, then, run_valid}

pub record Visit : Type 0 where
  pub function : ℕ
  pub own : ℕ

-- What a visit shows in the drawn program,
abbrev pub shown : List ℕ → State → Visit
shown d (spot f v c) = record { function = f; own = own_cost (graph_of d f) v }

-- and in the one problem.
abbrev pub label : List ℕ → ℕ → Visit
label d i = shown d (at d i)

-- The end of a run: function 0's last vertex with no caller.
abbrev pub end : List ℕ → State
end d = spot 0 (last_vertex (graph_of d 0)) nobody

module _ (d : List ℕ) (size : ℕ → ℕ) (D : Drawn d size) where
  pub same_visits : {s : State} {h : List State} → Run d s h → map (label d) (map (number d size) (s ∷ h)) ≡ map (shown d) (s ∷ h)
  same_visits begin = ap (λ (x : State). shown d x ∷ []) (at_number d size D (spot 0 0 nobody) (run_valid d size D begin))
  same_visits (then {s} {t} r x) = ap₂ ◌∷◌ (ap (shown d) (at_number d size D t (run_valid d size D (then r x)))) (same_visits r)

  -- The end of a run is the one problem's last vertex, and no other state is.
  end_valid : Valid d (end d)
  unfolding graph_of
  end_valid = (omega (arith, D.some_vertex 0 D.first), refl)

  pub end_number : suc (number d size (end d)) ≡ size 0
  unfolding graph_of number base
  end_number =
      let v = drawn_count d 0 - 1 in
      let last : suc v ≡ drawn_count d 0 = omega (arith, D.some_vertex 0 D.first) in
      omega (arith, size_last d size D 0 v D.first last)

  pub end_state : (s : State) → Valid d s → suc (number d size s) ≡ size 0 → s ≡ end d
  end_state s p q = one_state d size D s (end d) p end_valid (omega (arith, end_number))
