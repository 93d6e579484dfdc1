-- Which edition is written: 1 where no function has a check cost, and 2 where one has.
use Prim.Native.Nat.{ℕ, zero, suc, ◌+◌, ◌*◌, ◌≤◌, ◌<◌, min}
use mathlib.Core.Path.{◌≡◌, sym, ap, ◌∙◌}
use mathlib.Core.List.{List}
use mathlib.Core.Bool.{Bool, true, false, cond}
use native.Mathlib.Omega.{arith}
use native.Mathlib.Nat.{zero-add}
use lib.ListN.{length, get_or, length-take, get_or-eq_default}
use lib.Seq.{get_or-take}
use lib.Dec.{ltb}
use borrow.Author.Tests.{ltb-false, lt-ltb, le-ltb}
use Rattle.std.specs.List.{list_any, range_with_len}
use Rattle.model.specs.declared.Function.{Function}
use Rattle.model.specs.declared.Problem.{Problem}
use Rattle.model.specs.Zero.{zero_function}
use Rattle.model.specs.Limits.{first_edition, second_edition}
use Rattle.model.specs.Search.{lowest_from, exists_below}
use Rattle.model.specs.Graph.{functions_of}
use Rattle.model.specs.Costs.{check_cost}
use Rattle.model.specs.Numbers.{table, function_at, some_check, edition_of, problem_of}
use Rattle.model.proofs.Cases.{by_bool, by_order}
use Rattle.model.proofs.Lists.{length-table, get_or-table}
use Rattle.model.proofs.Search.{lowest_alike, none_below, exists_nowhere}
use Rattle.model.specs.Places as places

-- A function of the list has a check cost above 0.
abbrev checks : List Function → ℕ → Bool
checks fs f = ltb 0 (get_or fs f zero_function).check.0

-- A test of some number of a range is the search.
any_from : (n i : ℕ) (test : ℕ → Bool) → list_any test (range_with_len i n) ≡ ltb (lowest_from n i test) (i + n)
unfolding lowest_from
any_from zero i test = sym (le-ltb i (i + 0) (omega arith))
any_from (suc n) i test =
    by_bool (test i)
    (λ e. rw e (sym (lt-ltb i (i + suc n) (omega arith))))
    (λ e. rw e (any_from n (i + 1) test ∙ ap (ltb (lowest_from n (i + 1) test)) (let f : i + 1 + n ≡ i + suc n = omega arith in f)))

-- The functions that numbers say, of which as many as have places are searched.
module _ (l : List ℕ) where
  abbrev functions : List Function
  functions = functions_of (problem_of l)

  abbrev count : ℕ
  count = get_or l places.function_count 0

  long : length functions ≡ min count places.most_functions
  unfolding problem_of
  long = length-take count (table places.most_functions (function_at l)) ∙ ap (min count) (length-table places.most_functions (function_at l))

  item : (i : ℕ) → i < min count places.most_functions → get_or functions i zero_function ≡ function_at l i
  unfolding problem_of
  item i h =
      get_or-take count (table places.most_functions (function_at l)) i zero_function (omega arith)
      ∙ get_or-table places.most_functions (function_at l) i zero_function (omega arith)

  -- Whether the numbers have a check cost above 0 for function i.
  abbrev pub check_test : ℕ → Bool
  check_test i = ltb 0 (get_or l (places.check + places.function_width * i) 0)

  pub some_check_told : {taken : ℕ} → taken ≡ min count places.most_functions → list_any check_test (range_with_len 0 taken) ≡ some_check functions
  unfolding some_check
  some_check_told {taken} is =
      any_from taken 0 check_test
      ∙ (λ j. ltb (lowest_alike taken check_test (checks functions) (λ i h. sym (ap (λ (f : Function). ltb 0 f.check.0) (item i (omega (arith, is))))) j) (zero-add taken j))
      ∙ ap (λ n. exists_below n (checks functions)) (is ∙ sym long)

edition_by : (t : Bool) → (first_edition ≤ cond t second_edition first_edition) × (cond t second_edition first_edition ≤ second_edition)
edition_by true = (omega arith, omega arith)
edition_by false = (omega arith, omega arith)

module _ (p : Problem) where
  -- There are two editions.
  pub edition_limits : (first_edition ≤ edition_of p) × (edition_of p ≤ second_edition)
  unfolding edition_of
  edition_limits = edition_by (some_check (functions_of p))

  -- What edition 1 is written of has no check cost.
  pub first_unchecked : edition_of p ≡ first_edition → (f : ℕ) → check_cost p f ≡ 0
  unfolding edition_of some_check
  first_unchecked e f =
      by_bool (some_check (functions_of p))
      (λ t. let z : second_edition ≡ first_edition = rw t at e in absurd (omega arith))
      (λ t. by_order f (length (functions_of p))
      (λ h. omega (arith, ltb-false 0 (check_cost p f) (none_below (length (functions_of p)) (checks (functions_of p)) t f h)))
      (λ h. ap (λ (x : Function). x.check.0) (get_or-eq_default (functions_of p) zero_function h)))

  -- And edition 1 is written of what has none.
  pub unchecked_first : ((f : ℕ) → check_cost p f ≡ 0) → edition_of p ≡ first_edition
  unfolding edition_of some_check
  unchecked_first none =
      ap (λ (t : Bool). cond t second_edition first_edition)
      (exists_nowhere (length (functions_of p)) (checks (functions_of p)) (λ f h. le-ltb 0 (check_cost p f) (omega (arith, none f))))
