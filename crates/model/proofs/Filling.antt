-- Filling an array with a table, item by item.
use Prim.Native.Nat.{ℕ, ◌+◌, ◌≤◌, ◌<◌}
use mathlib.Core.Path.{◌≡◌, ◌∙◌}
use mathlib.Core.List.{List}
use native.Mathlib.Omega.{arith}
use lib.ListN.{length, get_or, set, replicate, length-set, length-replicate}
use lib.Seq.{get_or-set_same, get_or-set_other}
use borrow.Author.Count.{below_none, below_more}
use Rattle.model.specs.Numbers.{table}
use Rattle.model.proofs.Lists.{is_table}

module _ {A : Type 0} (f : ℕ → A) where
  -- An array whose first i items are the table's.
  pub record FilledTo (n i : ℕ) (d : A) (out : List A) : Type 0 where
    pub within : i ≤ n
    pub long : length out ≡ n
    pub first : (k : ℕ) → k < i → get_or out k d ≡ f k

  pub filled_none : (n : ℕ) (d : A) → FilledTo n 0 d (replicate n d)
  filled_none n d =
      record { within = omega arith; long = length-replicate n d; first = below_none (λ (k : ℕ). get_or (replicate n d) k d ≡ f k) }

  pub filled_more : (n i : ℕ) (d : A) (out : List A) → i < n → FilledTo n i d out → FilledTo n (i + 1) d (set out i (f i))
  filled_more n i d out h filled =
      record {
        within = omega arith;
        long = length-set out i (f i) ∙ filled.long;
        first =
            below_more (λ (k : ℕ). get_or (set out i (f i)) k d ≡ f k) i
            (λ k lt. get_or-set_other out i k (f i) d (omega arith) ∙ filled.first k lt)
            (get_or-set_same out i (f i) d (omega (arith, filled.long)));
      }

  pub filled_all : (n i : ℕ) (d : A) (out : List A) → n ≤ i → FilledTo n i d out → out ≡ table n f
  filled_all n i d out h filled = is_table n f d out filled.long (λ k lt. filled.first k (omega arith))
