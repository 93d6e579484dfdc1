-- Laws of stays: how a visit changes the count of the header's visits in the present stay.
use Prim.Native.Nat.{ℕ, ◌+◌, ◌≤◌}
use mathlib.Core.Path.{◌≡◌}
use mathlib.Core.List.{List, [], ◌∷◌, Memᴰ}
use mathlib.Core.Bool.{true, false, cond}
use native.Mathlib.Omega.{arith}
use lib.Dec.{eqb}
use borrow.Author.Tests.{eq-eqb, ne_eqb, eqb-true, eqb-false}
use Rattle.model.specs.declared.Loop.{Loop}
use Rattle.model.specs.Graph.{holds}
use Rattle.model.specs.Walks.{visits, Within}
use Rattle.model.proofs.Cases.{by_bool}

module _ (l : Loop) (v : ℕ) (h : List ℕ) where
  pub visits_out : holds l v ≡ false → visits l (v ∷ h) ≡ 0
  unfolding visits
  visits_out e = rw e

  pub visits_in : holds l v ≡ true → visits l (v ∷ h) ≡ visits l h + cond (eqb l.header v) 1 0
  unfolding visits
  visits_in e = rw e

  pub visits_head : holds l v ≡ true → l.header ≡ v → visits l (v ∷ h) ≡ visits l h + 1
  visits_head e q = rw (visits_in e, eq-eqb _ _ q)

  pub visits_body : holds l v ≡ true → (l.header ≡ v → ⊥) → visits l (v ∷ h) ≡ visits l h
  visits_body e q = rw (visits_in e, ne_eqb _ _ q) (omega arith)

  pub visits_up : holds l v ≡ true → visits l h ≤ visits l (v ∷ h)
  visits_up e = rw (visits_in e) (omega arith)

-- No count is past its bound, at any point of the range.
pub within_all : (ls : List Loop) (h : List ℕ) → Within ls h → (l : Loop) → Memᴰ l ls → visits l h ≤ l.bound
unfolding visits Within
within_all ls [] w l i = omega arith
within_all ls (v ∷ h) w l i =
    by_bool (holds l v)
    (λ e. by_bool (eqb l.header v)
    (λ q. w.0 l i (eqb-true _ _ q))
    (λ q. omega (arith, visits_body l v h e (eqb-false _ _ q), within_all ls h w.1 l i)))
    (λ e. omega (arith, visits_out l v h e))
