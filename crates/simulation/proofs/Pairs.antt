-- Filling a table with two numbers a turn.
use Prim.Native.Nat.{ℕ, ◌+◌, ◌*◌, ◌≤◌, ◌<◌}
use mathlib.Core.Path.{◌≡◌, ◌∙◌}
use mathlib.Core.List.{List}
use native.Mathlib.Omega.{arith}
use lib.ListN.{length, get_or, set, replicate, length-set, length-replicate}
use lib.Seq.{get_or-set_same, get_or-set_other}
use borrow.Author.Count.{below_none, below_more}
use Rattle.simulation.specs.Running.{pair_count, Pairs}
use Rattle.model.specs.Places as places

module _ (first second : ℕ → ℕ) where
  pub no_pairs : Pairs first second 0 (replicate pair_count 0)
  no_pairs = record { long = length-replicate {A = ℕ} pair_count 0; one = below_none _; other = below_none _ }

  module _ (i a b : ℕ) (room : i < places.most_vertices) (a_is : a ≡ first i) (b_is : b ≡ second i) (t : List ℕ) (pairs : Pairs first second i t) where
    -- The table with the next pair.
    abbrev after : List ℕ
    after = set (set t (2 * i) a) (2 * i + 1) b

    long_between : length (set t (2 * i) a) ≡ pair_count
    long_between = length-set t (2 * i) a ∙ pairs.long

    elsewhere : (k : ℕ) → k < 2 * i → get_or after k 0 ≡ get_or t k 0
    elsewhere k h = get_or-set_other (set t (2 * i) a) (2 * i + 1) k b 0 (λ e. omega arith) ∙ get_or-set_other t (2 * i) k a 0 (λ e. omega arith)

    pub next_pair : Pairs first second (i + 1) after
    next_pair =
        record {
          long = length-set (set t (2 * i) a) (2 * i + 1) b ∙ long_between;
          one =
              below_more _ i (λ k h. elsewhere (2 * k) (omega arith) ∙ pairs.one k h)
              (get_or-set_other (set t (2 * i) a) (2 * i + 1) (2 * i) b 0 (λ e. omega arith) ∙ get_or-set_same t (2 * i) a 0 (omega (arith, pairs.long)) ∙ a_is);
          other =
              below_more _ i (λ k h. elsewhere (2 * k + 1) (omega arith) ∙ pairs.other k h)
              (get_or-set_same (set t (2 * i) a) (2 * i + 1) b 0 (omega (arith, long_between)) ∙ b_is);
        }

  pub all_pairs : (i n : ℕ) (t : List ℕ) → n ≤ i → Pairs first second i t → Pairs first second n t
  all_pairs i n t over pairs = record { long = pairs.long; one = λ k h. pairs.one k (omega arith); other = λ k h. pairs.other k (omega arith) }
