-- A refusal is its number and its place: each number from 1 to the last has one refusal at each place.
use Prim.Native.Nat.{ℕ, zero, suc, ◌+◌, ◌-◌, ◌≤◌, ◌<◌}
use native.Mathlib.Omega.{arith}
use mathlib.Core.Path.{◌≡◌, refl, sym, ap, ◌∙◌}
use mathlib.Core.Bool.{Bool, true, ◌&&◌}
use mathlib.Core.List.{List, [], ◌∷◌}
use lib.ListN.{length, get_or}
use lib.Dec.{eqb}
use borrow.Author.Tests.{eqb-true}
use Rattle.model.specs.declared.Refusal.{Refusal}
use Rattle.model.specs.declared.Refusal.TheVariants.{EndsEarly, Misspelt, OutOfRange, NotAscending, LeftOver, MissingEdge, WrongLoop, WrongEdge, NoEdgeBack, BufferTooShort, LayoutTooLong, UnknownRegion, ScratchpadTooSmall, BoundTooLarge, WrongStep, BeyondBound, WalkTooLong, Recursive, CountPassed, LastCalls, UnknownVertex, NoSentence}
use Rattle.model.specs.Refusals.{last_refusal, number, place, refusals, refusal_of, placed_at}
use Rattle.model.proofs.Cases.{and_left, and_right}

-- A refusal's number is one of 1 to the last; with it and its place it is the refusal, and with another place the same refusal there.
pub record Known (f : Refusal) : Type 0 where
  pub low : 1 ≤ number f
  pub high : number f ≤ last_refusal
  pub is : refusal_of (number f) (place f) ≡ f
  pub elsewhere : (at : ℕ) → refusal_of (number f) at ≡ placed_at f at
  pub kept : (at : ℕ) → number (placed_at f at) ≡ number f
  pub moved : (at : ℕ) → place (placed_at f at) ≡ at

pub known : (f : Refusal) → Known f
known (EndsEarly at) = record { low = omega arith; high = omega arith; is = refl; elsewhere = λ k. refl; kept = λ k. refl; moved = λ k. refl }
known (Misspelt at) = record { low = omega arith; high = omega arith; is = refl; elsewhere = λ k. refl; kept = λ k. refl; moved = λ k. refl }
known (OutOfRange at) = record { low = omega arith; high = omega arith; is = refl; elsewhere = λ k. refl; kept = λ k. refl; moved = λ k. refl }
known (NotAscending at) = record { low = omega arith; high = omega arith; is = refl; elsewhere = λ k. refl; kept = λ k. refl; moved = λ k. refl }
known (LeftOver at) = record { low = omega arith; high = omega arith; is = refl; elsewhere = λ k. refl; kept = λ k. refl; moved = λ k. refl }
known (MissingEdge at) = record { low = omega arith; high = omega arith; is = refl; elsewhere = λ k. refl; kept = λ k. refl; moved = λ k. refl }
known (WrongLoop at) = record { low = omega arith; high = omega arith; is = refl; elsewhere = λ k. refl; kept = λ k. refl; moved = λ k. refl }
known (WrongEdge at) = record { low = omega arith; high = omega arith; is = refl; elsewhere = λ k. refl; kept = λ k. refl; moved = λ k. refl }
known (NoEdgeBack at) = record { low = omega arith; high = omega arith; is = refl; elsewhere = λ k. refl; kept = λ k. refl; moved = λ k. refl }
known (BufferTooShort at) = record { low = omega arith; high = omega arith; is = refl; elsewhere = λ k. refl; kept = λ k. refl; moved = λ k. refl }
known (LayoutTooLong at) = record { low = omega arith; high = omega arith; is = refl; elsewhere = λ k. refl; kept = λ k. refl; moved = λ k. refl }
known (UnknownRegion at) = record { low = omega arith; high = omega arith; is = refl; elsewhere = λ k. refl; kept = λ k. refl; moved = λ k. refl }
known (ScratchpadTooSmall at) = record { low = omega arith; high = omega arith; is = refl; elsewhere = λ k. refl; kept = λ k. refl; moved = λ k. refl }
known (BoundTooLarge at) = record { low = omega arith; high = omega arith; is = refl; elsewhere = λ k. refl; kept = λ k. refl; moved = λ k. refl }
known (WrongStep at) = record { low = omega arith; high = omega arith; is = refl; elsewhere = λ k. refl; kept = λ k. refl; moved = λ k. refl }
known (BeyondBound at) = record { low = omega arith; high = omega arith; is = refl; elsewhere = λ k. refl; kept = λ k. refl; moved = λ k. refl }
known (WalkTooLong at) = record { low = omega arith; high = omega arith; is = refl; elsewhere = λ k. refl; kept = λ k. refl; moved = λ k. refl }
known (Recursive at) = record { low = omega arith; high = omega arith; is = refl; elsewhere = λ k. refl; kept = λ k. refl; moved = λ k. refl }
known (CountPassed at) = record { low = omega arith; high = omega arith; is = refl; elsewhere = λ k. refl; kept = λ k. refl; moved = λ k. refl }
known (LastCalls at) = record { low = omega arith; high = omega arith; is = refl; elsewhere = λ k. refl; kept = λ k. refl; moved = λ k. refl }
known (UnknownVertex at) = record { low = omega arith; high = omega arith; is = refl; elsewhere = λ k. refl; kept = λ k. refl; moved = λ k. refl }
known (NoSentence at) = record { low = omega arith; high = omega arith; is = refl; elsewhere = λ k. refl; kept = λ k. refl; moved = λ k. refl }

-- The list has the numbers from 1 on: one computed test.
abbrev in_order : List (ℕ → Refusal) → ℕ → Bool
in_order [] n = true
in_order (r ∷ rest) n = eqb (number (r 0)) n && in_order rest (suc n)

in_order_lem : (rs : List (ℕ → Refusal)) (n i : ℕ) → in_order rs n ≡ true → i < length rs → number (get_or rs i NoSentence 0) ≡ n + i
in_order_lem [] n i e h = absurd (omega arith)
in_order_lem (r ∷ rest) n zero e h = eqb-true (number (r 0)) n (and_left (eqb (number (r 0)) n) (in_order rest (suc n)) e) ∙ omega arith
in_order_lem (r ∷ rest) n (suc i) e h =
    in_order_lem rest (suc n) i (and_right (eqb (number (r 0)) n) (in_order rest (suc n)) e) (omega arith) ∙ omega arith

numbered : (n : ℕ) → 1 ≤ n → n ≤ last_refusal → number (refusal_of n 0) ≡ n
numbered n low high = in_order_lem refusals 1 (n - 1) refl (omega arith) ∙ omega arith

-- The refusal with a number from 1 to the last, and a place, has these.
module _ (n at : ℕ) (low : 1 ≤ n) (high : n ≤ last_refusal) where
  placed : refusal_of n at ≡ placed_at (refusal_of n 0) at
  placed = ap (λ (m : ℕ). refusal_of m at) (sym (numbered n low high)) ∙ (known (refusal_of n 0)).elsewhere at

  pub number_is : number (refusal_of n at) ≡ n
  number_is = ap number placed ∙ (known (refusal_of n 0)).kept at ∙ numbered n low high

  pub place_is : place (refusal_of n at) ≡ at
  place_is = ap place placed ∙ (known (refusal_of n 0)).moved at
