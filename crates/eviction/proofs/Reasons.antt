-- What the numbers say is the true reason: the function named is the lowest that evicts, and the walks by the numbers are the shortest that show it.
use Prim.Native.Nat.{ℕ, ◌≤◌, ◌<◌}
use mathlib.Core.Path.{◌≡◌, refl, sym, ap, subst, ◌∙◌}
use mathlib.Core.List.{List, [], ◌∷◌, Memᴰ}
use mathlib.Core.Bool.{false}
use mathlib.Core.Logic.{◌⊎◌, inl, inr, ◌↔◌}
use native.Mathlib.Omega.{arith}
use lib.ListN.{length}
use Rattle.model.specs.declared.Problem.{Problem}
use Rattle.model.specs.declared.Reason.TheVariants.{EveryVisit, FirstLoad, Never}
use Rattle.model.specs.Numbers.{problem_of}
use Rattle.model.specs.Costs.{function_of}
use Rattle.model.specs.Layouts.{region_of}
use Rattle.model.specs.Places.{most_functions, most_vertices}
use Rattle.model.specs.Walks.{EdgeOf, Walk}
use Rattle.model.specs.Interference.{since, occurs, Contested, Fresh}
use Rattle.model.specs.Evictions.{Shortest, Evicts, EvictionIs}
use Rattle.model.specs.Results.{most_shown}
use Rattle.lookup.proofs.Places.{facts, few_functions, function_below, vertex_small}
use Rattle.lookup.proofs.Walks.{edge_below}
use Rattle.flow.proofs.Reached.{reached}
use Rattle.ways.specs.Ways.{no_way, steps, Falls, Distances}
use Rattle.ways.proofs.Exact.{falls_long, falls_best}
use Rattle.ways.proofs.Phases.{phase, arrives_way, best_shortest, phase_since, phase_fresh}
use Rattle.ways.proofs.Free.{free_interferes, interferes_free, fresh_free}
use Rattle.ways.proofs.Known.{edges_small, no_function}
use Rattle.evicting.specs.Evicting.{Comes, Lowest}
use Rattle.eviction.specs.Showing.{Explainable}

module _ {l regions : List ℕ} {v : ℕ} (ready : Explainable l regions v) where
  abbrev p : Problem
  p = problem_of l

  abbrev f : ℕ
  f = function_of p v

  first_there : 0 < most_vertices
  first_there = omega arith

  -- The walk by numbers at rest.
  module _ (g s : ℕ) (d : List ℕ) (rest : Distances p f g v d) (low : s < 2) where
    module _ (Good : List ℕ → Type 0) (good : (h : List ℕ) → Walk (EdgeOf p) v h → (phase p f g s h ≡ 1) ↔ Good h) where
      way_to : (h : List ℕ) → Walk (EdgeOf p) v h → Good h → steps d 0 s < no_way
      way_to h walk is = arrives_way p f g v s d (edges_small l ready.checked) rest low walk ((good h walk).1 is)

      shortest : (ws : List ℕ) → Falls p f g d s 0 ws → Shortest (EdgeOf p) Good v (0 ∷ ws)
      shortest ws falls =
          best_shortest p f g v s Good good ws (falls_best p f g v d (edges_small l ready.checked) rest ws s 0 first_there low falls)

    pub shown_few : steps d 0 s < no_way → (ws : List ℕ) → Falls p f g d s 0 ws → length (0 ∷ ws) ≤ most_shown
    shown_few way ws falls =
        let small = edges_small l ready.checked in
        omega (arith, falls_long p f g v d small rest ws s 0 falls, rest.few 0 s first_there low way)

  module _ (free : List ℕ) (rest : Distances p f most_functions v free) (g : ℕ) (lowest : Lowest p regions f free p.vertex_count g) where
    -- A function that evicts is that of a vertex which comes between.
    comes : (k : ℕ) → Evicts (function_of p) (EdgeOf p) (region_of regions) v k → (u : ℕ) × (u < p.vertex_count) × (function_of p u ≡ k) × Comes p regions f free u
    comes k (interferes, shares) =
        let (u, (w, edge), is, way) =
        interferes_free p most_functions v free (edges_small l ready.checked) (no_function l ready.checked) rest k interferes in (
          u,
          (edge_below ready.checked edge).0,
          is,
          record { way = way; other = λ e. interferes.0 (sym is ∙ e); shares = ap (region_of regions) is ∙ shares },
        )

    pub named_least : (k : ℕ) → Evicts (function_of p) (EdgeOf p) (region_of regions) v k → g ≤ k
    named_least k evicts = let (u, below, is, between) = comes k evicts in omega (arith, lowest.least u below between)

    pub named_evicts : g < most_functions → Evicts (function_of p) (EdgeOf p) (region_of regions) v g
    named_evicts some = at lowest.one
      where
        at : (g ≡ most_functions) ⊎ ((u : ℕ) × (u < p.vertex_count) × (g ≡ function_of p u) × Comes p regions f free u) →
            Evicts (function_of p) (EdgeOf p) (region_of regions) v g
        at (inl none) = absurd (omega arith)
        at (inr (u, below, is, between)) =
            let (h, walk) = reached l ready.checked u below in
            subst (Evicts (function_of p) (EdgeOf p) (region_of regions) v) (sym is) (
              free_interferes p most_functions v free (edges_small l ready.checked) (no_function l ready.checked) rest u
                  (vertex_small l (facts l ready.checked) u below) h walk between.way between.other,
              between.shares,
            )

    pub not_contested : most_functions ≤ g → Contested (function_of p) (EdgeOf p) (region_of regions) v → ⊥
    not_contested none (k, interferes, shares) =
        let (u, below, is, between) = comes k (interferes, shares) in
        omega (
          arith,
          lowest.least u below between,
          function_below l (facts l ready.checked) u below,
          few_functions l (facts l ready.checked),
        )

    fresh : steps free 0 1 < no_way ↔ Fresh (function_of p) (EdgeOf p) f v
    fresh = fresh_free p most_functions v free (edges_small l ready.checked) (no_function l ready.checked) rest first_there

    -- 2: vertex 0 leads to v past no vertex of its function.
    pub first_load : most_functions ≤ g → steps free 0 1 < no_way → (ws : List ℕ) → Falls p f most_functions free 1 0 ws →
        EvictionIs p regions v FirstLoad (0 ∷ ws)
    first_load none way ws falls = (
      (not_contested none, fresh.0 way),
      shortest most_functions 1 free rest (omega arith) (λ h. occurs (function_of p) f h ≡ false)
          (λ h walk. phase_fresh p f most_functions (no_function l ready.checked) walk) ws falls,
    )

    -- 3: it does not.
    pub never : most_functions ≤ g → no_way ≤ steps free 0 1 → EvictionIs p regions v Never []
    never none way_less = (not_contested none, λ can. omega (arith, fresh.1 can), refl)

    -- 1: by numbers of steps where g begins phase 1.
    module _ (some : g < most_functions) (d : List ℕ) (by_g : Distances p f g v d) where
      since_g : (h : List ℕ) → Walk (EdgeOf p) v h → (phase p f g 0 h ≡ 1) ↔ Memᴰ g (since (function_of p) f h)
      since_g h walk = phase_since p f g (named_evicts some).0.0 h

      pub every_way : steps d 0 0 < no_way
      every_way =
          let (h, walk, member) = (named_evicts some).0.1 in
          way_to g 0 d by_g (omega arith) (λ k. Memᴰ g (since (function_of p) f k)) since_g h walk member

      pub every_visit_lem : (ws : List ℕ) → Falls p f g d 0 0 ws → EvictionIs p regions v (EveryVisit g) (0 ∷ ws)
      every_visit_lem ws falls = (
        named_evicts some,
        named_least,
        shortest g 0 d by_g (omega arith) (λ k. Memᴰ g (since (function_of p) f k)) since_g ws falls,
      )
