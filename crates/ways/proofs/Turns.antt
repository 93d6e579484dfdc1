-- The phase after a visit, by the function of the vertex, and where vertex 0's numbers stand.
use Prim.Native.Nat.{ℕ, ◌+◌, ◌*◌}
use mathlib.Core.Path.{◌≡◌, ap}
use mathlib.Core.List.{List}
use native.Mathlib.Omega.{arith}
use lib.ListN.{get_or}
use borrow.Author.Tests.{eq-eqb, ne_eqb}
use Rattle.ways.specs.Ways.{phase_after, steps}

module _ (f g k s : ℕ) where
  pub at_f : k ≡ f → 0 ≡ phase_after f g k s
  unfolding phase_after
  at_f e = rw (eq-eqb k f e)

  pub at_g : (k ≡ f → ⊥) → k ≡ g → 1 ≡ phase_after f g k s
  unfolding phase_after
  at_g ne e = rw (ne_eqb k f ne, eq-eqb k g e)

  pub elsewhere : (k ≡ f → ⊥) → (k ≡ g → ⊥) → s ≡ phase_after f g k s
  unfolding phase_after
  elsewhere ne other = rw (ne_eqb k f ne, ne_eqb k g other)

pub first_steps : (d : List ℕ) (s : ℕ) → steps d 0 s ≡ get_or d s 0
first_steps d s = let e : 2 * 0 + s ≡ s = omega arith in ap (λ (i : ℕ). get_or d i 0) e
