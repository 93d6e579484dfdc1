-- Interference and charges: visit charges, first loads and the second total. Contested, early and cold are told by tests, which must say what the
-- definitions over walks say.
use Rattle.std.specs.Prelude.{ℕ, ◌+◌, ◌≡◌, List, [], ◌∷◌, Bool, true, cond, not, ◌&&◌, ◌||◌, length, eqb, ltb}
use Rattle.model.specs.declared.Loop.{Loop}
use Rattle.model.specs.declared.Problem.{Problem}
use Rattle.model.specs.Search.{exists_below}
use Rattle.model.specs.Graph.{edge, holds, loop, edges_of, loops_of}
use Rattle.model.specs.Costs.{function_of, own_cost, load_cost, check_cost, total}
use Rattle.model.specs.Walks.{EdgeOf, weights}
use Rattle.model.specs.Layouts.{region_of}
use Rattle.model.specs.Interference.{Contested, Early, Cold}

-- The tests say which vertices are contested and which early, and which functions are cold under a layout.
pub record Told (p : Problem) (layout : List ℕ) (contested early cold : ℕ → Bool) : Type 0 where
  pub contested_is : (v : ℕ) → contested v ≡ true → Contested (function_of p) (EdgeOf p) (region_of layout) v
  pub contested_all : (v : ℕ) → Contested (function_of p) (EdgeOf p) (region_of layout) v → contested v ≡ true
  pub early_is : (v : ℕ) → early v ≡ true → Early (function_of p) (EdgeOf p) (region_of layout) v
  pub early_all : (v : ℕ) → Early (function_of p) (EdgeOf p) (region_of layout) v → early v ≡ true
  pub cold_is : (f : ℕ) → cold f ≡ true → Cold (function_of p) (EdgeOf p) (region_of layout) f
  pub cold_all : (f : ℕ) → Cold (function_of p) (EdgeOf p) (region_of layout) f → cold f ≡ true

-- No loop holds v.
unfoldable pub outside : List Loop → ℕ → Bool
outside ls v = not (exists_below (length ls) (λ i. holds (loop ls i) v))

-- A loop is *outermost*: no loop that begins before it holds its header.
unfoldable pub outermost : List Loop → Loop → Bool
outermost ls l = not (exists_below (length ls) (λ i. ltb (loop ls i).header l.header && holds (loop ls i) l.header))

module _ (p : Problem) where
  -- Edge i of the problem leads to v from a vertex of another function.
  abbrev pub from_another : ℕ → ℕ → Bool
  from_another v i = eqb (edge (edges_of p) i).to v && not (eqb (function_of p (edge (edges_of p) i).from) (function_of p v))

  -- v is *entered*: it is vertex 0, or some edge of the problem leads to it from a vertex of another function.
  unfoldable pub entered : ℕ → Bool
  entered v = eqb v 0 || exists_below (length (edges_of p)) (from_another v)

  -- A vertex's *visit charge* is its own cost, plus its function's check cost if it is entered, plus its function's load cost if it is contested.
  unfoldable pub visit_charge : (ℕ → Bool) → ℕ → ℕ
  visit_charge contested v =
      own_cost p v + cond (entered v) (check_cost p (function_of p v)) 0 + cond (contested v) (load_cost p (function_of p v)) 0

  -- The *first loads*: the load cost of each cold function once.
  unfoldable pub first_loads : (ℕ → Bool) → ℕ
  first_loads cold = total p.function_count (λ f. cond (cold f) (load_cost p f) 0)

  -- In the second total a visit is charged the visit charge, and the function's load cost too if the vertex is early and no loop holds it.
  unfoldable pub second_charge : (contested early : ℕ → Bool) → ℕ → ℕ
  second_charge contested early v = visit_charge contested v + cond (outside (loops_of p) v && early v) (load_cost p (function_of p v)) 0

  -- The loop holds an early vertex of f.
  unfoldable pub holds_early : (early : ℕ → Bool) → Loop → ℕ → Bool
  holds_early early l f = exists_below p.vertex_count (λ v. holds l v && (eqb (function_of p v) f && early v))

  -- An entry of an outermost loop is charged the load cost of each function, once each, of which the loop holds an early vertex.
  unfoldable pub entry_charge : (early : ℕ → Bool) → Loop → ℕ
  entry_charge early l = cond (outermost (loops_of p) l) (first_loads (holds_early early l)) 0

  -- The *second total* of a walk: what its visits and its entries of loops are charged.
  abbrev pub second_total : (contested early : ℕ → Bool) → List ℕ → ℕ
  second_total contested early = weights (loops_of p) (second_charge contested early) (entry_charge early)

-- A walk's visit charges, a vertex once for each visit.
unfoldable pub charges : (ℕ → ℕ) → List ℕ → ℕ
charges charge [] = 0
charges charge (v ∷ h) = charges charge h + charge v
