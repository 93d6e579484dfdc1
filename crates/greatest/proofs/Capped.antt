-- Products kept up to a cap, as a program makes them.
use Prim.Native.Nat.{ℕ, ◌+◌, ◌*◌, ◌/◌, ◌<◌, min}
use mathlib.Core.Path.{◌≡◌}
use native.Mathlib.Omega.{arith}
use native.Mathlib.Nat.{lt-mul-div-succ, mul-le-mul_left}

-- A product past the cap is seen by a division.
pub cap_mul_over : (cap k t : ℕ) → 0 < k → cap / k < t → min cap (k * t) ≡ cap
cap_mul_over cap k t p q = omega (arith, lt-mul-div-succ cap p, mul-le-mul_left {m = cap / k + 1} {n = t} k (omega arith))
