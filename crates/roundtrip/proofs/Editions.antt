-- The edition is no part of the problem: a problem's numbers in two editions differ in their first alone. They pass the checks in each edition that can say the
-- problem, and clearing their spare places leaves one problem.
use Prim.Native.Nat.{ℕ, zero, suc, ◌+◌, ◌*◌, ◌≤◌, ◌<◌}
use Rattle.std.specs.Prelude.{Ok}
use mathlib.Core.Path.{◌≡◌, refl, sym, ap, subst, ◌∙◌}
use mathlib.Core.List.{List}
use mathlib.Core.Bool.{Bool, cond}
use native.Mathlib.Omega.{arith}
use lib.ListN.{length, get_or, take, get_or-eq_default}
use lib.Seq.{get_or-take, ext_get_or}
use Rattle.model.specs.declared.Function.{Function}
use Rattle.model.specs.declared.Problem.{Problem}
use Rattle.model.specs.Zero.{zero_function}
use Rattle.model.specs.Limits.{first_edition, second_edition}
use Rattle.model.specs.Costs.{check_cost}
use Rattle.model.specs.Numbers.{table, function_at, edition_of, numbers_in, numbers_of, problem_of, Sized}
use Rattle.model.specs.File.{edition_in, check_fields, in_use, cleared}
use Rattle.model.proofs.Cases.{by_same, by_order}
use Rattle.model.proofs.Lists.{length-take-table, get_or-take-table}
use Rattle.numbers.proofs.At.{functions_are, function_is}
use Rattle.numbers.proofs.Inverse.{numbers_length, numbers_of_problem, problem_of_numbers, sized_problem}
use Rattle.numbers.proofs.Written.{edition_limits, first_unchecked, unchecked_first}
use Rattle.facts.specs.Fields.{FieldFacts}
use Rattle.facts.proofs.Done.{facts_done}
use Rattle.facts.proofs.Cleared.{cleared_length, cleared_at}
use Rattle.model.specs.Places as places

pub own_edition : (edition : ℕ) (p : Problem) → edition_in (numbers_in edition p) ≡ edition
unfolding numbers_in
own_edition edition p = refl

-- Behind the edition two editions have the same numbers.
pub same_behind : (p : Problem) (e f k : ℕ) → 0 < k → get_or (numbers_in e p) k 0 ≡ get_or (numbers_in f p) k 0
unfolding numbers_in
same_behind p e f zero h = absurd (omega arith)
same_behind p e f (suc k) h = refl

-- A check cost among the numbers.
pub check_number : (edition : ℕ) (p : Problem) → Sized p → (i : ℕ) → i < p.function_count → i < places.most_functions →
    get_or (numbers_in edition p) (places.check + places.function_width * i) 0 ≡ check_cost p i
check_number edition p sized i below few =
    ap (λ (f : Function). f.check.0) (function_is edition p sized i few ∙ sym (get_or-take p.function_count p.functions i zero_function below))

-- What passes the checks in an edition passes them in each that can say the problem.
module _ (p : Problem) (sized : Sized p) (e f : ℕ) (enough : edition_of p ≤ f) (known : f ≤ second_edition) where
  abbrev l : List ℕ
  l = numbers_in e p

  abbrev m : List ℕ
  m = numbers_in f p

  same : (k : ℕ) → 0 < k → get_or l k 0 ≡ get_or m k 0
  same = same_behind p e f

  pub in_edition : FieldFacts l → FieldFacts m
  in_edition ok =
      let first = own_edition f p in
      let scratchpad = same places.scratchpad (omega arith) in
      let functions = same places.function_count (omega arith) in
      let vertices = same places.vertex_count (omega arith) in
      let edges = same places.edge_count (omega arith) in
      let loops = same places.loop_count (omega arith) in
      record {
        edition_low = omega (arith, edition_limits p);
        edition_high = omega arith;
        scratchpad_low = omega (arith, ok.scratchpad_low);
        scratchpad_high = omega (arith, ok.scratchpad_high);
        some_function = omega (arith, ok.some_function);
        functions = omega (arith, ok.functions);
        some_vertex = omega (arith, ok.some_vertex);
        vertices = omega (arith, ok.vertices);
        edges = omega (arith, ok.edges);
        loops = omega (arith, ok.loops);
        size = λ i h. rw (← same (places.size + places.function_width * i) (omega arith)) (ok.size i (omega arith));
        load = λ i h. rw (← same (places.load + places.function_width * i) (omega arith)) (ok.load i (omega arith));
        check = λ i h. rw (← same (places.check + places.function_width * i) (omega arith)) (ok.check i (omega arith));
        unchecked = λ one i h.
            check_number f p sized i (omega (arith, functions_are f p sized)) (omega (arith, ok.functions))
            ∙ first_unchecked p (omega (arith, edition_limits p)) i;
        function = λ i h. omega (arith, ok.function i (omega arith), same (places.function + places.vertex_width * i) (omega arith));
        cost = λ i h. rw (← same (places.cost + places.vertex_width * i) (omega arith)) (ok.cost i (omega arith));
        from = λ i h. omega (arith, ok.from i (omega arith), same (places.from + places.edge_width * i) (omega arith));
        to = λ i h. omega (arith, ok.to i (omega arith), same (places.to + places.edge_width * i) (omega arith));
        ascend = λ i h.
            rw (
              ← same (places.from + places.edge_width * i) (omega arith),
              ← same (places.to + places.edge_width * i) (omega arith),
              ← same (places.from + places.edge_width * (i + 1)) (omega arith),
              ← same (places.to + places.edge_width * (i + 1)) (omega arith),
            ) (ok.ascend i (omega arith));
        header = λ i h.
            omega (arith, ok.header i (omega arith), same (places.header + places.loop_width * i) (omega arith), same (places.last + places.loop_width * i) (omega arith));
        last = λ i h. omega (arith, ok.last i (omega arith), same (places.last + places.loop_width * i) (omega arith));
        bound_low = λ i h. rw (← same (places.bound + places.loop_width * i) (omega arith)) (ok.bound_low i (omega arith));
        bound_high = λ i h. rw (← same (places.bound + places.loop_width * i) (omega arith)) (ok.bound_high i (omega arith));
        headers = λ i h.
            omega (arith, ok.headers i (omega arith), same (places.header + places.loop_width * i) (omega arith), same (places.header + places.loop_width * (i + 1)) (omega arith));
      }

-- Numbers that pass the checks are in an edition that can say their problem.
module _ (l : List ℕ) (ok : FieldFacts l) where
  no_check : edition_in l ≡ first_edition → (f : ℕ) → check_cost (problem_of l) f ≡ 0
  unfolding problem_of
  no_check one f =
      let count : ℕ = get_or l places.function_count 0 in
      let fs : List Function = take count (table places.most_functions (function_at l)) in
      by_order f count
      (λ h. ap (λ (x : Function). x.check.0) (get_or-take-table count places.most_functions (function_at l) f zero_function ok.functions h) ∙ ok.unchecked one f h)
      (λ h. ap (λ (x : Function). x.check.0) (get_or-eq_default fs zero_function (omega (arith, length-take-table count places.most_functions (function_at l) ok.functions))))

  pub edition_enough : edition_of (problem_of l) ≤ edition_in l
  edition_enough =
      let limits = edition_limits (problem_of l) in
      by_same (edition_in l) first_edition (λ one. omega (arith, unchecked_first (problem_of l) (no_check one))) (λ other. omega (arith, ok.edition_low))

-- So their problem passes the checks of writing, in the edition that is written of it.
pub settled : (l : List ℕ) → length l ≡ places.end → FieldFacts l → (need : ℕ) × (check_fields (numbers_of (problem_of l)) ≡ Ok need)
settled l long ok =
    let p : Problem = problem_of l in
    let own : numbers_in (edition_in l) p ≡ l = numbers_of_problem l long in
    facts_done (numbers_of p) (in_edition p (sized_problem l) (edition_in l) (edition_of p) (omega arith) (edition_limits p).1 (subst FieldFacts (sym own) ok))

-- Two full lists that differ in their edition alone say one problem.
but_edition : (l m : List ℕ) → length l ≡ places.end → length m ≡ places.end → ((k : ℕ) → 0 < k → k < places.end → get_or l k 0 ≡ get_or m k 0) → problem_of l ≡ problem_of m
but_edition l m long long' same =
    let p : Problem = problem_of l in
    let own = numbers_of_problem l long in
    let is : m ≡ numbers_in (edition_in m) p =
    ext_get_or 0 m (numbers_in (edition_in m) p) (long' ∙ sym (numbers_length (edition_in m) p (sized_problem l))) (λ k h. number k (omega arith)) in
    sym (ap problem_of is ∙ problem_of_numbers (edition_in m) p (sized_problem l))
  where
    number : (k : ℕ) → k < places.end → get_or m k 0 ≡ get_or (numbers_in (edition_in m) (problem_of l)) k 0
    number zero h = sym (own_edition (edition_in m) (problem_of l))
    number (suc k) h =
        sym (same (suc k) (omega arith) h)
        ∙ ap (λ (x : List ℕ). get_or x (suc k) 0) (sym (numbers_of_problem l long))
        ∙ same_behind (problem_of l) (edition_in l) (edition_in m) (suc k) (omega arith)

module _ (p : Problem) (e f : ℕ) where
  use_alike : (k : ℕ) → in_use (numbers_in e p) k ≡ in_use (numbers_in f p) k
  unfolding in_use
  use_alike k =
      rw (
        same_behind p e f places.function_count (omega arith),
        same_behind p e f places.vertex_count (omega arith),
        same_behind p e f places.edge_count (omega arith),
        same_behind p e f places.loop_count (omega arith),
      )

  -- Clearing the spare places leaves the same problem in every edition.
  pub cleared_alike : problem_of (cleared (numbers_in e p)) ≡ problem_of (cleared (numbers_in f p))
  cleared_alike =
      but_edition (cleared (numbers_in e p)) (cleared (numbers_in f p)) (cleared_length (numbers_in e p)) (cleared_length (numbers_in f p))
      (λ k low high.
      cleared_at (numbers_in e p) k high
      ∙ ap (λ (t : Bool). cond t (get_or (numbers_in e p) k 0) 0) (use_alike k)
      ∙ ap (λ (n : ℕ). cond (in_use (numbers_in f p) k) n 0) (same_behind p e f k low)
      ∙ sym (cleared_at (numbers_in f p) k high))
