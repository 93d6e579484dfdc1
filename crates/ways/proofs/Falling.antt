-- Where there is a way, there is one that always takes the lowest vertex one nearer.
use Prim.Native.Nat.{ℕ, zero, suc, ◌<◌}
use mathlib.Core.Path.{◌≡◌, refl, sym, ◌∙◌}
use mathlib.Core.List.{List, [], ◌∷◌}
use mathlib.Core.Bool.{Bool, true, ◌&&◌, and-eq-true_iff}
use native.Mathlib.Omega.{arith}
use lib.Dec.{eqb}
use borrow.Author.Tests.{eq-eqb, eqb-true}
use Rattle.model.specs.declared.Problem.{Problem}
use Rattle.model.specs.Costs.{function_of}
use Rattle.model.specs.Places.{most_vertices}
use Rattle.model.specs.Search.{lowest_below}
use Rattle.model.specs.Verdicts.{may_follow}
use Rattle.model.specs.Walks.{EdgeOf}
use Rattle.model.proofs.Cases.{by_order, true_not_false}
use Rattle.model.proofs.Search.{exists_at, lowest_passes, below_lowest}
use Rattle.steps.proofs.Edges.{follows_edge, edge_follows}
use Rattle.ways.specs.Ways.{no_way, steps, turn, Nearest, Falls, Distances}
use Rattle.ways.proofs.Exact.{EdgesSmall, phase_low, back}

module _ (p : Problem) (f g v : ℕ) (d : List ℕ) (small : EdgesSmall p) (D : Distances p f g v d) where
  module _ (u s : ℕ) where
    -- Whether an edge leads from u to w, and w has the number k in the phase after u.
    abbrev leads : ℕ → ℕ → Bool
    leads k w = may_follow p (u ∷ []) w && eqb (steps d w (turn p f g s u)) k

    leads_there : (k w : ℕ) → EdgeOf p u w → steps d w (turn p f g s u) ≡ k → leads k w ≡ true
    leads_there k w edge has = (and-eq-true_iff (may_follow p (u ∷ []) w) _).1 (edge_follows p u w [] edge, eq-eqb _ k has)

    lowest : (k : ℕ) → u < most_vertices → s < 2 → steps d u s ≡ suc k → suc k < no_way →
        (w : ℕ) × Nearest p f g d s u w × (steps d w (turn p f g s u) ≡ k)
    lowest k there low is less =
        let (x, edge, near) = back p f g v d small D u s k there low is less in
        let passes = lowest_passes most_vertices (leads k) (exists_at most_vertices (leads k) x (small u x edge).1 (leads_there k x edge near)) in
        let (follows, has) = (and-eq-true_iff (may_follow p (u ∷ []) (lowest_below most_vertices (leads k))) _).0 passes in
        let number = eqb-true _ k has in (
          lowest_below most_vertices (leads k),
          record {
            edge = follows_edge p u _ [] follows;
            nearer = omega arith;
            least = λ y other one_nearer.
                by_order y (lowest_below most_vertices (leads k))
                (λ lower.
                true_not_false
                (sym (leads_there k y other (omega arith)) ∙ below_lowest most_vertices (leads k) y (small u y other).1 lower))
                (λ high. high);
          },
          number,
        )

  falls_by : (k u s : ℕ) → u < most_vertices → s < 2 → steps d u s ≡ k → k < no_way → (ws : List ℕ) × Falls p f g d s u ws
  falls_by zero u s there low is less = ([], is)
  falls_by (suc k) u s there low is less =
      let (w, near, has) = lowest u s k there low is less in
      let (ws, falls) = falls_by k w (turn p f g s u) (small u w near.edge).1 (phase_low f g (function_of p u) s low) has (omega arith) in
      (w ∷ ws, (near, falls))

  pub falls_from : (u s : ℕ) → u < most_vertices → s < 2 → steps d u s < no_way → (ws : List ℕ) × Falls p f g d s u ws
  falls_from u s there low less = falls_by (steps d u s) u s there low refl less
