-- Filling a table with the four costs of a visit to a vertex a turn.
use Prim.Native.Nat.{ℕ, ◌+◌, ◌*◌, ◌≤◌, ◌<◌}
use mathlib.Core.Path.{◌≡◌, ◌∙◌}
use mathlib.Core.List.{List}
use native.Mathlib.Omega.{arith}
use lib.ListN.{length, get_or, set, replicate, length-set, length-replicate}
use lib.Seq.{get_or-set_same, get_or-set_other}
use borrow.Author.Count.{below_none, below_more}
use Rattle.model.specs.Places as places
use Rattle.simulation.specs.Running.{cost_count, CostsBelow}

module _ (own load check : ℕ → ℕ) where
  pub no_costs : CostsBelow own load check 0 (replicate cost_count 0)
  no_costs =
      record {
        long = length-replicate {A = ℕ} cost_count 0;
        alone = below_none _;
        loaded = below_none _;
        checked = below_none _;
        both = below_none _;
      }

  module _ (i a b c d : ℕ) (room : i < places.most_vertices) (a_is : a ≡ own i) (b_is : b ≡ own i + load i) (c_is : c ≡ own i + check i)
      (d_is : d ≡ own i + check i + load i) (t : List ℕ) (costs : CostsBelow own load check i t) where
    -- The table with the first of the next four costs, and so on.
    abbrev one : List ℕ
    one = set t (4 * i) a

    abbrev two : List ℕ
    two = set one (4 * i + 1) b

    abbrev three : List ℕ
    three = set two (4 * i + 2) c

    abbrev after : List ℕ
    after = set three (4 * i + 3) d

    long_one : length one ≡ cost_count
    long_one = length-set t (4 * i) a ∙ costs.long

    long_two : length two ≡ cost_count
    long_two = length-set one (4 * i + 1) b ∙ long_one

    long_three : length three ≡ cost_count
    long_three = length-set two (4 * i + 2) c ∙ long_two

    -- A place before the last of them is as it was before that was entered, and so on.
    in_three : (k : ℕ) → k < 4 * i + 3 → get_or after k 0 ≡ get_or three k 0
    in_three k h = get_or-set_other three (4 * i + 3) k d 0 (λ e. omega arith)

    in_two : (k : ℕ) → k < 4 * i + 2 → get_or after k 0 ≡ get_or two k 0
    in_two k h = in_three k (omega arith) ∙ get_or-set_other two (4 * i + 2) k c 0 (λ e. omega arith)

    in_one : (k : ℕ) → k < 4 * i + 1 → get_or after k 0 ≡ get_or one k 0
    in_one k h = in_two k (omega arith) ∙ get_or-set_other one (4 * i + 1) k b 0 (λ e. omega arith)

    as_before : (k : ℕ) → k < 4 * i → get_or after k 0 ≡ get_or t k 0
    as_before k h = in_one k (omega arith) ∙ get_or-set_other t (4 * i) k a 0 (λ e. omega arith)

    pub next_costs : CostsBelow own load check (i + 1) after
    next_costs =
        record {
          long = length-set three (4 * i + 3) d ∙ long_three;
          alone =
              below_more _ i (λ v h. as_before (4 * v) (omega arith) ∙ costs.alone v h)
              (in_one (4 * i) (omega arith) ∙ get_or-set_same t (4 * i) a 0 (omega (arith, costs.long)) ∙ a_is);
          loaded =
              below_more _ i (λ v h. as_before (4 * v + 1) (omega arith) ∙ costs.loaded v h)
              (in_two (4 * i + 1) (omega arith) ∙ get_or-set_same one (4 * i + 1) b 0 (omega (arith, long_one)) ∙ b_is);
          checked =
              below_more _ i (λ v h. as_before (4 * v + 2) (omega arith) ∙ costs.checked v h)
              (in_three (4 * i + 2) (omega arith) ∙ get_or-set_same two (4 * i + 2) c 0 (omega (arith, long_two)) ∙ c_is);
          both =
              below_more _ i (λ v h. as_before (4 * v + 3) (omega arith) ∙ costs.both v h)
              (get_or-set_same three (4 * i + 3) d 0 (omega (arith, long_three)) ∙ d_is);
        }

  pub all_costs : (i n : ℕ) (t : List ℕ) → n ≤ i → CostsBelow own load check i t → CostsBelow own load check n t
  all_costs i n t over costs =
      record {
        long = costs.long;
        alone = λ v h. costs.alone v (omega arith);
        loaded = λ v h. costs.loaded v (omega arith);
        checked = λ v h. costs.checked v (omega arith);
        both = λ v h. costs.both v (omega arith);
      }
