-- Walks that are each ahead of the other are one walk: so there is at most one shortest.
use Prim.Native.Nat.{ℕ}
use mathlib.Core.Path.{◌≡◌, refl, sym, subst}
use mathlib.Core.List.{List, [], ◌∷◌}
use mathlib.Core.Logic.{inl, inr}
use native.Mathlib.Omega.{arith}
use lib.ListN.{length}
use Rattle.model.specs.Evictions.{Ahead, Shortest}
use Rattle.model.proofs.Behind.{neither_behind}

pub ahead_both : (xs ys : List ℕ) → Ahead xs ys → Ahead ys xs → xs ≡ ys
ahead_both xs ys (inl a) (inl b) = absurd (omega arith)
ahead_both xs ys (inl a) (inr b) = absurd (omega (arith, b.0))
ahead_both xs ys (inr a) (inl b) = absurd (omega (arith, a.0))
ahead_both xs ys (inr a) (inr b) = neither_behind xs ys a.0 a.1 b.1

-- One vertex more in front of both.
pub ahead_more : (x : ℕ) (xs ys : List ℕ) → Ahead xs ys → Ahead (x ∷ xs) (x ∷ ys)
ahead_more x xs ys (inl fewer) = inl (omega arith)
ahead_more x xs ys (inr (long, a)) = inr (omega arith, inr (refl, a))

pub shortest_once : (Edge : ℕ → ℕ → Type 0) (Good : List ℕ → Type 0) (v : ℕ) (xs ys : List ℕ) → Shortest Edge Good v xs → Shortest Edge Good v ys → xs ≡ ys
shortest_once Edge Good v xs ys a b =
    ahead_both xs ys
    (subst (Ahead xs) (sym b.is) (a.ahead b.history b.arrives b.good))
    (subst (Ahead ys) (sym a.is) (b.ahead a.history a.arrives a.good))
