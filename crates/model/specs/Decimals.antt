-- The program `marksheet`: texts as their bytes, and numbers in decimal, without leading zeros.
use Rattle.std.specs.Prelude.{ℕ, zero, suc, ◌+◌, ◌/◌, ◌%◌, List, [], ◌∷◌, cond, ltb}
use Prim.Native.Char.{code}
use Prim.Native.String as string

-- A quoted text as its bytes.
unfoldable pub text : string.String → List ℕ
text string.[] = []
text (string.◌∷◌ c s) = code c ∷ text s

-- The digits of n in front of `rest`: 48 is the byte of 0. (`k` bounds how deep the calls go; n is enough.)
unfoldable pub digits_of : ℕ → ℕ → List ℕ → List ℕ
digits_of zero n rest = (48 + n) ∷ rest
digits_of (suc k) n rest = cond (ltb n 10) ((48 + n) ∷ rest) (digits_of k (n / 10) ((48 + n % 10) ∷ rest))

unfoldable pub decimal : ℕ → List ℕ
decimal n = digits_of n n []
