-- What running a walk keeps: the cycles, the loads, the function held in each region and the latest function, after a history.
use Rattle.std.specs.Prelude.{ℕ, ◌+◌, ◌*◌, ◌^◌, ◌≤◌, ◌<◌, ◌≡◌, List, [], ◌∷◌, Bool, cond, length, get_or, set, eqb, Ok}
use Rattle.model.specs.declared.Problem.{Problem}
use Rattle.model.specs.declared.Run.{Run}
use Rattle.model.specs.Numbers.{table, problem_of}
use Rattle.model.specs.Operations.{Checked}
use Rattle.model.specs.Costs.{function_of, own_cost, load_cost, check_cost}
use Rattle.model.specs.Layouts.{region_of}
use Rattle.model.specs.Runs.{cycles, loads, held_after}
use Rattle.model.specs.Verdicts.{judge_walk, walk_limit}
use Rattle.model.specs.Places.{most_vertices}
use Rattle.model.specs.Limits as limits
use Rattle.regions.specs.Regions.{KnownRegions}

-- The state of a run after a history: what Run gives.
pub record Ran (p : Problem) (layout h held : List ℕ) (run : Run) : Type 0 where
  pub cycles_are : run.cycles.0 ≡ cycles p layout h
  pub loads_are : run.loads ≡ loads p layout h
  pub held_are : held ≡ table limits.most_regions (held_after p layout h)

-- The function of the latest visit, 255 before the first.
abbrev pub latest_function : Problem → List ℕ → ℕ
latest_function p [] = 255
latest_function p (v ∷ h) = function_of p v

-- Two places a vertex.
abbrev pub pair_count : ℕ
pair_count = 2 * most_vertices

-- A table with two numbers for each k below n.
pub record Pairs (first second : ℕ → ℕ) (n : ℕ) (t : List ℕ) : Type 0 where
  pub long : length t ≡ pair_count
  pub one : (k : ℕ) → k < n → get_or t (2 * k) 0 ≡ first k
  pub other : (k : ℕ) → k < n → get_or t (2 * k + 1) 0 ≡ second k

-- Each vertex's function and its region.
abbrev pub Places : Problem → List ℕ → List ℕ → Type 0
Places p layout t = Pairs (function_of p) (λ v. region_of layout (function_of p v)) p.vertex_count t

-- Four places a vertex: for a visit with so many region checks and loads.
abbrev pub cost_count : ℕ
cost_count = 4 * most_vertices

abbrev pub cost_place : (v checks loads : ℕ) → ℕ
cost_place v checks loads = 4 * v + 2 * checks + loads

-- The four costs of a visit to each vertex below n: by itself, with a load, with a region check, and with both.
pub record CostsBelow (own load check : ℕ → ℕ) (n : ℕ) (t : List ℕ) : Type 0 where
  pub long : length t ≡ cost_count
  pub alone : (v : ℕ) → v < n → get_or t (4 * v) 0 ≡ own v
  pub loaded : (v : ℕ) → v < n → get_or t (4 * v + 1) 0 ≡ own v + load v
  pub checked : (v : ℕ) → v < n → get_or t (4 * v + 2) 0 ≡ own v + check v
  pub both : (v : ℕ) → v < n → get_or t (4 * v + 3) 0 ≡ own v + check v + load v

abbrev pub Costs : Problem → List ℕ → Type 0
Costs p t = CostsBelow (own_cost p) (λ v. load_cost p (function_of p v)) (λ v. check_cost p (function_of p v)) p.vertex_count t

-- The loads and the region checks of a visit to v, by the tables.
abbrev pub loads_at : List ℕ → List ℕ → ℕ → ℕ
loads_at places held v = cond (eqb (get_or held (get_or places (2 * v + 1) 0) 0) (get_or places (2 * v) 0)) 0 1

abbrev pub checks_at : List ℕ → ℕ → ℕ → ℕ
checks_at places latest v = cond (eqb latest (get_or places (2 * v) 0)) 0 1

-- A visit to v, by the tables, from a state that leaves room for its cost, whether it comes from the same function and whether its function is there or not.
pub record Visiting (places costs : List ℕ) (run : Run) (v : ℕ) : Type 0 where
  pub inside : v < most_vertices
  pub function_small : get_or places (2 * v) 0 < 2 ^ 8
  pub region_small : get_or places (2 * v + 1) 0 < limits.most_regions
  pub cycles_fit : (same there : Bool) → run.cycles.0 + get_or costs (cost_place v (cond same 0 1) (cond there 0 1)) 0 < 2 ^ 64
  pub loads_fit : run.loads + 1 < 2 ^ 64

pub record Visited (places costs before after : List ℕ) (latest latest' : ℕ) (run run' : Run) (v : ℕ) : Type 0 where
  pub cycles_are : run'.cycles.0 ≡ run.cycles.0 + get_or costs (cost_place v (checks_at places latest v) (loads_at places before v)) 0
  pub loads_are : run'.loads ≡ run.loads + loads_at places before v
  pub held_are : after ≡ set before (get_or places (2 * v + 1) 0) (get_or places (2 * v) 0)
  pub latest_is : latest' ≡ get_or places (2 * v) 0

-- A walk that Run runs: each refusal before the result is ruled out.
pub record Runnable (l layout walk : List ℕ) : Type 0 where
  pub checked : Checked l
  pub regions : KnownRegions (problem_of l) layout
  pub short : length walk ≤ walk_limit
  pub accepted : judge_walk (problem_of l) [] 0 walk ≡ Ok tt
