-- How great a problem's costs are at most, in the form in which `grind` finds it.
use Prim.Native.Nat.{ℕ, ◌≤◌, ◌<◌}
use mathlib.Core.List.{List}
use Rattle.model.specs.Numbers.{problem_of}
use Rattle.model.specs.Costs.{function_of, own_cost, load_cost, check_cost}
use Rattle.model.specs.Operations.{Checked}
use Rattle.model.specs.Limits as limits
use Rattle.lookup.specs.Lists.{vertices_in}
use Rattle.lookup.proofs.Places.{facts, function_below, cost_high, load_high, check_high}

pub function_listed : (l : List ℕ) (v : ℕ) → Checked l → v < vertices_in l → function_of (problem_of l) v < (problem_of l).function_count
function_listed l v ok below = function_below l (facts l ok) v below

pub own_few : (l : List ℕ) (v : ℕ) → Checked l → v < vertices_in l → own_cost (problem_of l) v ≤ limits.most_cycles
own_few l v ok below = cost_high l (facts l ok) v below

pub load_few : (l : List ℕ) (f : ℕ) → Checked l → f < (problem_of l).function_count → load_cost (problem_of l) f ≤ limits.most_cycles
load_few l f ok below = load_high l (facts l ok) f below

pub check_few : (l : List ℕ) (f : ℕ) → Checked l → f < (problem_of l).function_count → check_cost (problem_of l) f ≤ limits.most_check
check_few l f ok below = check_high l (facts l ok) f below

pub ruleset few_cycles = (function_listed, own_few, load_few, check_few)
