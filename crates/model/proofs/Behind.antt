-- Lists of numbers by the smaller number at the first difference: neither is behind the other only where they are equal.
use Prim.Native.Nat.{ℕ}
use mathlib.Core.Path.{◌≡◌, refl, ap₂}
use mathlib.Core.List.{List, [], ◌∷◌}
use mathlib.Core.Logic.{inl, inr}
use native.Mathlib.Omega.{arith}
use lib.ListN.{length}
use Rattle.model.specs.Evictions.{NotBehind}

pub neither_behind : (xs ys : List ℕ) → length xs ≡ length ys → NotBehind xs ys → NotBehind ys xs → xs ≡ ys
neither_behind [] [] long a b = refl
neither_behind [] (y ∷ ys) long a b = absurd b
neither_behind (x ∷ xs) [] long a b = absurd a
neither_behind (x ∷ xs) (y ∷ ys) long (inl a) (inl b) = absurd (omega arith)
neither_behind (x ∷ xs) (y ∷ ys) long (inl a) (inr b) = absurd (omega (arith, b.0))
neither_behind (x ∷ xs) (y ∷ ys) long (inr a) (inl b) = absurd (omega (arith, a.0))
neither_behind (x ∷ xs) (y ∷ ys) long (inr a) (inr b) = ap₂ ◌∷◌ a.0 (neither_behind xs ys (omega arith) a.1 b.1)
