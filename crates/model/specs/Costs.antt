-- A problem's numbers by vertex and by function, and sums over the numbers below n.
use Rattle.std.specs.Prelude.{ℕ, zero, suc, ◌+◌, max, Bool, cond, get_or}
use Rattle.model.specs.declared.Problem.{Problem}
use Rattle.model.specs.Zero.{zero_function, zero_vertex}
use Rattle.model.specs.Graph.{functions_of, vertices_of}

abbrev pub size_of : Problem → ℕ → ℕ
size_of p f = (get_or (functions_of p) f zero_function).size.0

abbrev pub load_cost : Problem → ℕ → ℕ
load_cost p f = (get_or (functions_of p) f zero_function).load.0

abbrev pub check_cost : Problem → ℕ → ℕ
check_cost p f = (get_or (functions_of p) f zero_function).check.0

abbrev pub function_of : Problem → ℕ → ℕ
function_of p v = (get_or (vertices_of p) v zero_vertex).function

abbrev pub own_cost : Problem → ℕ → ℕ
own_cost p v = (get_or (vertices_of p) v zero_vertex).cost.0

-- The sum of f over the numbers below n.
unfoldable pub total : ℕ → (ℕ → ℕ) → ℕ
total zero f = 0
total (suc n) f = total n f + f n

-- The largest f of a number below n, 0 if there is none.
unfoldable pub largest : ℕ → (ℕ → ℕ) → ℕ
largest zero f = 0
largest (suc n) f = max (largest n f) (f n)

-- How many numbers below n pass a test.
abbrev pub how_many : ℕ → (ℕ → Bool) → ℕ
how_many n test = total n (λ i. cond (test i) 1 0)
