-- Numbers at rest are exact, and a walk that always takes the lowest vertex one nearer has the fewest entries, then the smallest number at the first
-- difference.
use Prim.Native.Nat.{ℕ, suc, ◌≤◌, ◌<◌}
use mathlib.Core.Path.{◌≡◌, sym, subst}
use mathlib.Core.List.{List, [], ◌∷◌}
use mathlib.Core.Bool.{Bool, true, false, cond}
use mathlib.Core.Logic.{inl, inr}
use native.Mathlib.Omega.{arith}
use lib.Dec.{eqb}
use lib.ListN.{length}
use Rattle.model.specs.declared.Problem.{Problem}
use Rattle.model.specs.Costs.{function_of}
use Rattle.model.specs.Places.{most_vertices}
use Rattle.model.specs.Walks.{EdgeOf}
use Rattle.model.specs.Evictions.{NotBehind}
use Rattle.model.proofs.Cases.{by_order}
use Rattle.ways.specs.Ways.{phase_after, no_way, steps, turn, Falls, Distances, Onward, Best}

pub phase_low : (f g k s : ℕ) → s < 2 → phase_after f g k s < 2
unfolding phase_after
phase_low f g k s low = at (eqb k f) (eqb k g)
  where
    at : (a b : Bool) → cond a 0 (cond b 1 s) < 2
    at true b = omega arith
    at false true = omega arith
    at false false = low

-- The edges lead from vertices to vertices.
abbrev pub EdgesSmall : Problem → Type 0
EdgesSmall p = (u w : ℕ) → EdgeOf p u w → (u < most_vertices) × (w < most_vertices)

module _ (p : Problem) (f g v : ℕ) (d : List ℕ) (small : EdgesSmall p) (D : Distances p f g v d) where
  -- A support that is nearer is one step nearer.
  pub back : (u s k : ℕ) → u < most_vertices → s < 2 → steps d u s ≡ suc k → suc k < no_way → (w : ℕ) × EdgeOf p u w × (steps d w (turn p f g s u) ≡ k)
  back u s k there low is less =
      let (w, edge, near) = D.nearing.support u s k there low is less in (w, edge, omega (arith, D.settled u s low w edge))

  -- From the start of an edge to where there is a way, there is one.
  pub way_before : (u s w : ℕ) → s < 2 → EdgeOf p u w → steps d w (turn p f g s u) < no_way → steps d u s < no_way
  way_before u s w low edge less =
      omega (arith, D.settled u s low w edge, D.few w (turn p f g s u) (small u w edge).1 (phase_low f g (function_of p u) s low) less)

  -- Where a way goes on, the numbers tell of one that is no longer.
  pub way_found : (xs : List ℕ) (u s : ℕ) → s < 2 → Onward p f g v s u xs → (steps d u s < no_way) × (steps d u s ≤ length xs)
  way_found [] u s low (e, q) = let is : steps d u s ≡ 0 = rw (e, q) D.nearing.reached in (omega arith, omega arith)
  way_found (x ∷ xs) u s low (edge, on) =
      let (less, short) = way_found xs x (turn p f g s u) (phase_low f g (function_of p u) s low) on in
      (way_before u s x low edge less, omega (arith, D.settled u s low x edge))

  pub falls_long : (ws : List ℕ) (s u : ℕ) → Falls p f g d s u ws → length ws ≡ steps d u s
  falls_long [] s u falls = omega arith
  falls_long (w ∷ ws) s u (near, falls) = omega (arith, near.nearer, falls_long ws (turn p f g s u) w falls)

  falls_goes : (ws : List ℕ) (s u : ℕ) → u < most_vertices → s < 2 → Falls p f g d s u ws → Onward p f g v s u ws
  falls_goes [] s u there low falls = D.nearing.goal u s there low falls
  falls_goes (w ∷ ws) s u there low (near, falls) =
      (near.edge, falls_goes ws (turn p f g s u) w (small u w near.edge).1 (phase_low f g (function_of p u) s low) falls)

  falls_first : (ws xs : List ℕ) (s u : ℕ) → s < 2 → Falls p f g d s u ws → Onward p f g v s u xs → length ws ≡ length xs → NotBehind ws xs
  falls_first [] xs s u low falls on long = tt
  falls_first (w ∷ ws) [] s u low falls on long = absurd (omega arith)
  falls_first (w ∷ ws) (x ∷ xs) s u low (near, falls) (edge, on) long =
      by_order w x inl
      (λ high.
      let e : x ≡ w = omega (arith, near.least x edge one_nearer) in
      inr (sym e, falls_first ws xs (turn p f g s u) w next_low falls (subst (λ (y : ℕ). Onward p f g v (turn p f g s u) y xs) e on) (omega arith)))
    where
      next_low : turn p f g s u < 2
      next_low = phase_low f g (function_of p u) s low

      one_nearer : steps d u s ≡ suc (steps d x (turn p f g s u))
      one_nearer =
          let (less, short) = way_found xs x (turn p f g s u) next_low on in
          omega (arith, D.settled u s low x edge, near.nearer, falls_long ws (turn p f g s u) w falls)

  pub falls_best : (ws : List ℕ) (s u : ℕ) → u < most_vertices → s < 2 → Falls p f g d s u ws → Best p f g v s u ws
  falls_best ws s u there low falls =
      record {
        goes = falls_goes ws s u there low falls;
        ahead = λ xs on.
            let (less, short) = way_found xs u s low on in
            by_order (length ws) (length xs) inl
            (λ high. let same : length ws ≡ length xs = omega (arith, falls_long ws s u falls) in inr (same, falls_first ws xs s u low falls on same));
      }
