-- Searching the numbers below n: the lowest that passes a test, and whether one does.
use Rattle.std.specs.Prelude.{ℕ, zero, suc, ◌+◌, Bool, cond, ltb}

-- The lowest of the `left` numbers from i on that passes, or the number after them all.
unfoldable pub lowest_from : ℕ → ℕ → (ℕ → Bool) → ℕ
lowest_from zero i test = i
lowest_from (suc left) i test = cond (test i) i (lowest_from left (i + 1) test)

-- The lowest number below n that passes, or n.
abbrev pub lowest_below : ℕ → (ℕ → Bool) → ℕ
lowest_below n test = lowest_from n 0 test

-- Whether a number below n passes.
abbrev pub exists_below : ℕ → (ℕ → Bool) → Bool
exists_below n test = ltb (lowest_below n test) n
