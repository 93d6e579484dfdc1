-- Running a walk visit by visit: what a visit makes of the cycles, the loads and the regions, and what is known after i visits.
use Prim.Native.Nat.{ℕ, ◌+◌, ◌*◌, ◌^◌, ◌≤◌, ◌<◌}
use mathlib.Core.Path.{◌≡◌, refl, sym, ap, ap₂, ◌∙◌}
use mathlib.Core.List.{List, [], ◌∷◌, reverse, reverse_aux}
use mathlib.Core.Bool.{Bool, true, false, cond}
use Rattle.std.specs.Prelude.{Option, Some, None}
use native.Mathlib.Omega.{arith}
use native.Mathlib.Numerals.{add-one}
use lib.ListN.{length, get_or, set, drop, replicate, length-set, length-replicate, get_or-replicate, drop_of_length-le}
use lib.Seq.{get_or-set_same, get_or-set_other, drop-cons}
use lib.Dec.{eqb}
use borrow.Author.Tests.{eq-eqb, ne_eqb, eqb-true, eqb-false}
use Rattle.model.specs.declared.Cycles.{Cycles}
use Rattle.model.specs.declared.Problem.{Problem}
use Rattle.model.specs.declared.Run.{Run}
use Rattle.model.specs.Zero.{cycles as cycles_of}
use Rattle.model.specs.Numbers.{table, problem_of}
use Rattle.model.specs.Costs.{function_of, own_cost, load_cost, check_cost}
use Rattle.model.specs.Layouts.{region_of}
use Rattle.model.specs.Operations.{Checked}
use Rattle.model.specs.Runs.{held, hit, is_held, check_at, cycles, loads, held_number, held_after}
use Rattle.model.proofs.Cases.{by_bool, by_cond}
use Rattle.model.proofs.Lists.{length-table, get_or-table, is_table}
use Rattle.lookup.proofs.Places.{facts, few_functions, few_vertices, function_below, cost_high, load_high, check_high}
use Rattle.simulation.specs.Running.{Places, Costs, Ran, Visiting, Visited, Runnable, latest_function, cost_place, loads_at, checks_at}
use Rattle.walk.proofs.Lawful.{entries_known}
use Rattle.model.specs.Places.{most_functions}
use Rattle.model.specs.Limits as limits
use Rattle.regions.specs.Regions.{KnownRegions}

-- The region check of a visit to v, whose function is f: none where the latest function is f too.
check_told : (p : Problem) (v f : ℕ) → function_of p v ≡ f → f < most_functions → (h : List ℕ) →
    check_at (function_of p) (check_cost p) v h ≡ cond (eqb (latest_function p h) f) 0 (check_cost p (function_of p v))
unfolding check_at
check_told p v f fn_is few [] = rw (ne_eqb (latest_function p []) f (λ e. omega arith))
check_told p v f fn_is few (u ∷ h) = ap (λ (x : ℕ). cond (eqb (function_of p u) x) 0 (check_cost p (function_of p v))) fn_is

-- A visit to v over the definitions, with v's function f and its region r: whether it finds f held, and what it leaves.
module _ (p : Problem) (layout h : List ℕ) (v f r : ℕ) (fn_is : function_of p v ≡ f) (region_is : region_of layout (function_of p v) ≡ r)
    (few : f < most_functions) (inside : r < limits.most_regions) where
  told_held : (x : Option ℕ) → eqb (held_number p layout x) f ≡ is_held (function_of p) (region_of layout) x f
  told_held None = ne_eqb (held_number p layout None) f (λ e. omega arith)
  told_held (Some g) = refl

  hit_is : hit (function_of p) (region_of layout) v h ≡ eqb (held_after p layout h r) f
  unfolding held_after
  hit_is = rw (region_is, fn_is) (sym (told_held (held (function_of p) (region_of layout) r h)))

  held_here : (k : ℕ) → k ≡ r → held_after p layout (v ∷ h) k ≡ f
  unfolding held_after held
  held_here k e = rw (region_is, eq-eqb r k (sym e), fn_is)

  held_elsewhere : (k : ℕ) → (k ≡ r → ⊥) → held_after p layout (v ∷ h) k ≡ held_after p layout h k
  unfolding held_after held
  held_elsewhere k n = rw (region_is, ne_eqb r k (λ e. n (sym e)))

  module _ (before : List ℕ) (run : Run) (ran : Ran p layout h before run) where
    held_is : (k : ℕ) → k < limits.most_regions → get_or before k 0 ≡ held_after p layout h k
    held_is k q = ap (λ (x : List ℕ). get_or x k 0) ran.held_are ∙ get_or-table limits.most_regions (held_after p layout h) k 0 q

    long : length before ≡ limits.most_regions
    long = ap (λ (x : List ℕ). length x) ran.held_are ∙ length-table limits.most_regions (held_after p layout h)

    found : hit (function_of p) (region_of layout) v h ≡ eqb (get_or before r 0) f
    found = hit_is ∙ (rw (← held_is r inside))

    left_held : set before r f ≡ table limits.most_regions (held_after p layout (v ∷ h))
    left_held =
        is_table limits.most_regions (held_after p layout (v ∷ h)) 0 (set before r f) (length-set before r f ∙ long)
        (λ k q.
        by_bool (eqb k r)
        (λ e.
        ap (λ (j : ℕ). get_or (set before r f) j 0) (eqb-true k r e)
        ∙ get_or-set_same before r f 0 (omega (arith, long))
        ∙ sym (held_here k (eqb-true k r e)))
        (λ e. get_or-set_other before r k f 0 (eqb-false k r e) ∙ held_is k q ∙ sym (held_elsewhere k (eqb-false k r e))))

    -- The state after the visit.
    visit_ran : (latest : ℕ) → latest ≡ latest_function p h → (after : List ℕ) (run' : Run) → after ≡ set before r f → run'.loads ≡ run.loads + cond (eqb (get_or before r 0) f) 0 1 →
        run'.cycles.0 ≡ run.cycles.0 + (own_cost p v + cond (eqb latest f) 0 (check_cost p (function_of p v)) + cond (eqb (get_or before r 0) f) 0 (load_cost p (function_of p v))) →
        Ran p layout (v ∷ h) after run'
    unfolding cycles loads
    visit_ran latest latest_is after run' after_is loads_are cycles_are =
        record {
          cycles_are = rw (found, check_told p v f fn_is few h, ← latest_is) (omega (arith, ran.cycles_are));
          loads_are = rw found (omega (arith, ran.loads_are));
          held_are = after_is ∙ left_held;
        }

-- A visit has at most one region check and at most one load.
one_at_most : (same : Bool) {n : ℕ} → n ≡ cond same 0 1 → n ≤ 1
one_at_most same is = rw is (by_cond (λ (x : ℕ). x ≤ 1) same (λ e. omega arith) (λ e. omega arith))

pub one_check : (places : List ℕ) (latest v k : ℕ) → k ≡ checks_at places latest v → k ≤ 1
one_check places latest v k is = one_at_most (eqb latest (get_or places (2 * v) 0)) is

pub one_load : (places before : List ℕ) (v m : ℕ) → m ≡ loads_at places before v → m ≤ 1
one_load places before v m is = one_at_most (eqb (get_or before (get_or places (2 * v + 1) 0) 0) (get_or places (2 * v) 0)) is

-- What `visit` makes of the tables and a state.
module _ (places costs before : List ℕ) (latest : ℕ) (run : Run) (v k m : ℕ) (checks_are : k ≡ checks_at places latest v) (loads_are : m ≡ loads_at places before v)
    (c : ℕ) (cost_is : c ≡ get_or costs (cost_place v k m) 0) where
  told_cost : c ≡ get_or costs (cost_place v (checks_at places latest v) (loads_at places before v)) 0
  told_cost = cost_is ∙ ap₂ (λ (x y : ℕ). get_or costs (cost_place v x y) 0) checks_are loads_are

  pub cost_fits : Visiting places costs run v → run.cycles.0 + c < 2 ^ 64
  cost_fits visiting =
      omega (
        arith,
        told_cost,
        visiting.cycles_fit (eqb latest (get_or places (2 * v) 0)) (eqb (get_or before (get_or places (2 * v + 1) 0) 0) (get_or places (2 * v) 0)),
      )

  pub made_visit : (sum : Cycles) → sum.0 ≡ run.cycles.0 + c →
      Visited places costs before (set before (get_or places (2 * v + 1) 0) (get_or places (2 * v) 0)) latest (get_or places (2 * v) 0) run
      (record { cycles = sum; loads = run.loads + m }) v
  made_visit sum sum_is_lem =
      record {
        cycles_are = sum_is_lem ∙ ap (λ (x : ℕ). run.cycles.0 + x) told_cost;
        loads_are = ap (λ (x : ℕ). run.loads + x) loads_are;
        held_are = refl;
        latest_is = refl;
      }

-- The most that a visit costs: its own cost, a region check and a load.
abbrev dearest : ℕ
dearest = limits.most_cycles + limits.most_cycles + limits.most_check

-- The same visit by the tables, and how large its numbers are.
module _ (l : List ℕ) (checked : Checked l) (layout places costs : List ℕ) (placed : Places (problem_of l) layout places) (priced : Costs (problem_of l) costs)
    (v : ℕ) (known : v < (problem_of l).vertex_count) where
  function_few : get_or places (2 * v) 0 < most_functions
  function_few = omega (arith, placed.one v known, function_below l (facts _ checked) v known, few_functions l (facts _ checked))

  abbrev check : ℕ
  check = check_cost (problem_of l) (function_of (problem_of l) v)

  abbrev load : ℕ
  load = load_cost (problem_of l) (function_of (problem_of l) v)

  -- The cost by whether the visit comes from the same function, and whether its function is there.
  cost_by : (same there : Bool) → get_or costs (cost_place v (cond same 0 1) (cond there 0 1)) 0 ≡ own_cost (problem_of l) v + cond same 0 check + cond there 0 load
  cost_by true true = let e : cost_place v 0 0 ≡ 4 * v = omega arith in rw e (omega (arith, priced.alone v known))
  cost_by true false = let e : cost_place v 0 1 ≡ 4 * v + 1 = omega arith in rw e (omega (arith, priced.loaded v known))
  cost_by false true = let e : cost_place v 1 0 ≡ 4 * v + 2 = omega arith in rw e (omega (arith, priced.checked v known))
  cost_by false false = let e : cost_place v 1 1 ≡ 4 * v + 3 = omega arith in rw e (omega (arith, priced.both v known))

  -- What is paid or not is at most itself.
  if_paid : (t : Bool) (x : ℕ) → cond t 0 x ≤ x
  if_paid t x = by_cond (λ (y : ℕ). y ≤ x) t (λ e. omega arith) (λ e. omega arith)

  cost_few : (same there : Bool) → get_or costs (cost_place v (cond same 0 1) (cond there 0 1)) 0 ≤ dearest
  cost_few same there =
      let ok = facts _ checked in
      let below = function_below l ok v known in
      omega (
        arith,
        cost_by same there,
        if_paid same check,
        if_paid there load,
        cost_high l ok v known,
        check_high l ok (function_of (problem_of l) v) below,
        load_high l ok (function_of (problem_of l) v) below,
      )

  module _ (inside : KnownRegions (problem_of l) layout) where
    region_few : get_or places (2 * v + 1) 0 < limits.most_regions
    region_few = omega (arith, placed.other v known, inside.known (function_of (problem_of l) v) (function_below l (facts _ checked) v known))

    may_visit : (run : Run) → run.cycles.0 + dearest < 2 ^ 64 → run.loads + 1 < 2 ^ 64 → Visiting places costs run v
    may_visit run cycles_fit loads_fit =
        record {
          inside = omega (arith, few_vertices l (facts _ checked));
          function_small = omega (arith, function_few);
          region_small = region_few;
          cycles_fit = λ same there. omega (arith, cost_few same there);
          loads_fit = loads_fit;
        }

    module _ (before after : List ℕ) (latest latest' : ℕ) (run run' : Run) (visited : Visited places costs before after latest latest' run run' v) where
      -- Whether the visit comes from its own function.
      abbrev same : Bool
      same = eqb latest (get_or places (2 * v) 0)

      -- Whether the visit finds its function held.
      abbrev there : Bool
      there = eqb (get_or before (get_or places (2 * v + 1) 0) 0) (get_or places (2 * v) 0)

      ran_on : (h : List ℕ) → latest ≡ latest_function (problem_of l) h → Ran (problem_of l) layout h before run → Ran (problem_of l) layout (v ∷ h) after run'
      ran_on h latest_is ran =
          visit_ran (problem_of l) layout h v (get_or places (2 * v) 0) (get_or places (2 * v + 1) 0) (sym (placed.one v known)) (sym (placed.other v known)) function_few region_few
          before run ran latest latest_is after run' visited.held_are visited.loads_are (visited.cycles_are ∙ ap (λ (x : ℕ). run.cycles.0 + x) (cost_by same there))

      cycles_near : run'.cycles.0 ≤ run.cycles.0 + dearest
      cycles_near = omega (arith, visited.cycles_are, cost_few same there)

      loads_near : run'.loads ≤ run.loads + 1
      loads_near = omega (arith, visited.loads_are, one_load places before v (loads_at places before v) refl)

-- After i visits of a walk.
pub record Running (p : Problem) (layout walk : List ℕ) (i : ℕ) (held : List ℕ) (latest : ℕ) (run : Run) : Type 0 where
  pub history : List ℕ
  pub within : i ≤ length walk
  pub rest : reverse_aux (drop i walk) history ≡ reverse walk
  pub ran : Ran p layout history held run
  pub latest_is : latest ≡ latest_function p history
  pub cycles_few : run.cycles.0 ≤ dearest * i
  pub loads_few : run.loads ≤ i

module _ (p : Problem) (layout : List ℕ) where
  -- Every region is empty.
  abbrev nothing : List ℕ
  nothing = replicate limits.most_regions (held_number p layout None)

  empty : Ran p layout [] nothing (record { cycles = cycles_of 0; loads = 0 })
  unfolding cycles loads held_after held
  empty =
      record {
        cycles_are = refl;
        loads_are = refl;
        held_are =
            is_table limits.most_regions (held_after p layout []) 0 nothing (length-replicate {A = ℕ} limits.most_regions (held_number p layout None))
            (λ k q. get_or-replicate {A = ℕ} limits.most_regions k (held_number p layout None) 0 q);
      }

  module _ (walk : List ℕ) where
    pub not_yet : Running p layout walk 0 nothing (latest_function p []) (record { cycles = cycles_of 0; loads = 0 })
    not_yet = record { history = []; within = omega arith; rest = refl; ran = empty; latest_is = refl; cycles_few = omega arith; loads_few = omega arith }

    pub run_over : (i : ℕ) (held : List ℕ) (latest : ℕ) (run : Run) → length walk ≤ i → Running p layout walk i held latest run → Ran p layout (reverse walk) held run
    run_over i held latest run over running =
        rw (← running.rest, drop_of_length-le walk over) running.ran

module _ (l layout walk : List ℕ) (runnable : Runnable l layout walk) (places costs : List ℕ) (placed : Places (problem_of l) layout places) (priced : Costs (problem_of l) costs)
    (i : ℕ) (held : List ℕ) (latest : ℕ) (run : Run) (more : i < length walk) (running : Running (problem_of l) layout walk i held latest run) where
  known : get_or walk i 0 < (problem_of l).vertex_count
  known = entries_known (problem_of l) walk [] 0 runnable.accepted i more

  pub ready : Visiting places costs run (get_or walk i 0)
  ready =
      may_visit l runnable.checked layout places costs placed priced (get_or walk i 0) known runnable.regions run
      (omega (arith, running.cycles_few, runnable.short))
      (omega (arith, running.loads_few, runnable.short))

  pub next_visit : (after : List ℕ) (latest' : ℕ) (run' : Run) → Visited places costs held after latest latest' run run' (get_or walk i 0) →
      Running (problem_of l) layout walk (i + 1) after latest' run'
  next_visit after latest' run' visited =
      record {
        history = get_or walk i 0 ∷ running.history;
        within = omega arith;
        rest =
            ap (λ (k : ℕ). reverse_aux (drop k walk) (get_or walk i 0 ∷ running.history)) (add-one i)
            ∙ ap (λ (x : List ℕ). reverse_aux x running.history) (sym (drop-cons walk i 0 more))
            ∙ running.rest;
        ran = ran_on l runnable.checked layout places costs placed priced (get_or walk i 0) known runnable.regions held after latest latest' run run' visited running.history running.latest_is running.ran;
        latest_is = visited.latest_is ∙ placed.one (get_or walk i 0) known;
        cycles_few = omega (arith, running.cycles_few, cycles_near l runnable.checked layout places costs placed priced (get_or walk i 0) known runnable.regions held after latest latest' run run' visited);
        loads_few = omega (arith, running.loads_few, loads_near l runnable.checked layout places costs placed priced (get_or walk i 0) known runnable.regions held after latest latest' run run' visited);
      }
