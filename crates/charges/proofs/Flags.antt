-- Flags that keep a test's answers are 0 or 1 and tell what the test tells; and flags that are 0 or 1 keep their own answers.
use Prim.Native.Nat.{ℕ, zero, suc, ◌≤◌, ◌<◌}
use mathlib.Core.Path.{◌≡◌, refl}
use mathlib.Core.List.{List}
use mathlib.Core.Bool.{Bool, true, false, cond}
use native.Mathlib.Omega.{arith}
use lib.ListN.{get_or}
use lib.Dec.{eqb}
use Rattle.entered.specs.Flags.{FlagsTell}
use Rattle.charges.specs.Tests.{Flags, flagged}

answer_back : (b : Bool) → eqb (cond b 1 0) 1 ≡ b
answer_back true = refl
answer_back false = refl

pub answer_low : (b : Bool) → cond b 1 0 ≤ 1
answer_low true = omega arith
answer_low false = omega arith

own_answer : (flag : ℕ) → flag ≤ 1 → flag ≡ cond (eqb flag 1) 1 0
own_answer zero low = refl
own_answer (suc zero) low = refl
own_answer (suc (suc n)) low = absurd (omega arith)

module _ {n : ℕ} {flags : List ℕ} where
  pub flag_told : {test : ℕ → Bool} → FlagsTell n test flags → (v : ℕ) → v < n → flagged flags v ≡ test v
  unfolding flagged
  flag_told {test} told v below = rw (told.flag v below) (answer_back (test v))

  pub flags_low : {test : ℕ → Bool} → FlagsTell n test flags → Flags n flags
  flags_low {test} told = record { low = λ v below. rw (told.flag v below) (answer_low (test v)) }

  pub flag_own : Flags n flags → (v : ℕ) → v < n → get_or flags v 0 ≡ cond (flagged flags v) 1 0
  unfolding flagged
  flag_own zero_or_one v below = own_answer (get_or flags v 0) (zero_or_one.low v below)
