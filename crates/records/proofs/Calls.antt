-- What `array::from_fn` gives, where calls leave the closure as it was: the table of its answers.
use Rattle.std.proofs.Common.{◌≡◌, ℕ, zero, suc, ◌+◌, ◌<◌, List, get_or, subst, ◌∙◌, add-zero, zero-add, arith}
use Rattle.std.specs.Fn.{Mut, Called}
use Rattle.std.specs.Array.{IsFromFnResult, IsFromFnResultFrom}
use Rattle.model.specs.Numbers.{table}
use Rattle.model.proofs.Lists.{is_table}

module _ {F B : Type 0} (g : Mut F (ℕ × Unit {0}) B) (f : F) (at : ℕ → B) (gives : (i : ℕ) (y : B) (q : F) → Called g f (i, tt) y q → (q ≡ f) × (y ≡ at i)) (ys : List B) where
  from_calls : (n i k : ℕ) (d : B) → IsFromFnResultFrom g f ys i n → k < n → get_or ys (i + k) d ≡ at (i + k)
  from_calls zero i k d calls h = absurd (omega arith)
  from_calls (suc n) i zero d (q, y, is, call, rest) h = rw add-zero (is.1 d ∙ (gives i y q call).1)
  from_calls (suc n) i (suc k) d (q, y, is, call, rest) h =
      let e : i + 1 + k ≡ i + suc k = omega arith in
      rw e at (from_calls n (i + 1) k d (subst (λ s. IsFromFnResultFrom g s ys (i + 1) n) (gives i y q call).0 rest) (omega arith))

  pub table_of_calls : (n : ℕ) → B → IsFromFnResult g f ys n → ys ≡ table n at
  table_of_calls n d result = is_table n at d ys result.long (λ k below. rw zero-add at (from_calls n 0 k d result.each below))
