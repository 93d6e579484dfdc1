-- The number at the last vertex is the greatest weight of a lawful walk, or it is at the cap and some lawful walk reaches the cap.
use Prim.Native.Nat.{ℕ, ◌≤◌, ◌<◌, min}
use mathlib.Core.Path.{◌≡◌}
use mathlib.Core.List.{List, ◌∷◌, Memᴰ}
use mathlib.Core.Bool.{false}
use native.Mathlib.Omega.{arith}
use lib.ListN.{length}
use Rattle.model.specs.declared.Loop.{Loop}
use Rattle.model.specs.declared.Problem.{Problem}
use Rattle.model.specs.Graph.{holds, edges_of, loops_of}
use Rattle.model.specs.Walks.{EdgeOf, last_vertex, Lawful, weights, Greatest}
use Rattle.graph.proofs.Facts.{GraphFacts}
use Rattle.greatest.specs.Numbers.{starts, ends, Solved}
use Rattle.greatest.specs.Greatest.{GreatestCapped}
use Rattle.greatest.proofs.Rules.{Rules, Order}
use Rattle.greatest.proofs.Levels.{High, Low}
use Rattle.greatest.proofs.Upper.{upper_last}
use Rattle.greatest.proofs.Attained.{attained}
use Rattle.greatest.proofs.Equations.{high, low}
use Rattle.greatest.proofs.Graph.{Ranges, listing, rules, order, linked}

-- Any weights, and any numbers that are high and low enough.
module _ (p : Problem) {c : ℕ → ℕ} {e : Loop → ℕ} {D : ℕ → ℕ} {E T : Loop → ℕ} {cap : ℕ} (R : Rules (EdgeOf p) (loops_of p))
    (H : High (EdgeOf p) (loops_of p) c e D E T cap) (out : (l : Loop) → Memᴰ l (loops_of p) → holds l (last_vertex p) ≡ false) where
  pub no_heavier : (h : List ℕ) → Lawful p h → min cap (weights (loops_of p) c e (last_vertex p ∷ h)) ≤ D (last_vertex p)
  no_heavier h w = upper_last R H w.walk w.within out

  module _ (some_vertex : 1 ≤ p.vertex_count) (O : Order (EdgeOf p) (loops_of p) p.vertex_count)
      (W : Low (EdgeOf p) (loops_of p) c e D E T p.vertex_count) where
    pub reaches : (h : List ℕ) × Lawful p h × (D (last_vertex p) ≤ weights (loops_of p) c e (last_vertex p ∷ h))
    reaches = let a = attained R O W (last_vertex p) (omega arith) out in (a.0, record { walk = a.1; within = a.2 }, a.3)

    pub greatest_weight : D (last_vertex p) < cap → Greatest p (weights (loops_of p) c e) (D (last_vertex p))
    greatest_weight s = record {
      above = λ h w. omega (arith, no_heavier h w);
      reached = let (h, w, g) = reaches in (h, w, omega (arith, no_heavier h w));
    }

-- Numbers that solve the equations.
module _ (p : Problem) {c : ℕ → ℕ} {e : Loop → ℕ} {D : ℕ → ℕ} {E T : Loop → ℕ} {cap : ℕ}
    (G : GraphFacts p.vertex_count (edges_of p) (loops_of p)) (B : Ranges p.vertex_count (edges_of p) (loops_of p))
    (S : Solved (starts (edges_of p)) (ends (edges_of p)) (length (edges_of p)) (loops_of p) c e D E T cap p.vertex_count) where
  is_high : High (EdgeOf p) (loops_of p) c e D E T cap
  is_high = high (listing (edges_of p)) (rules G B) (linked G B) S

  is_low : Low (EdgeOf p) (loops_of p) c e D E T p.vertex_count
  is_low = low (listing (edges_of p)) (rules G B) (linked G B) S

  pub at_last_lem : D (last_vertex p) ≤ cap → GreatestCapped p cap (weights (loops_of p) c e) (D (last_vertex p))
  at_last_lem most = record {
    below = greatest_weight p (rules G B) is_high G.open_end B.some_vertex (order G B) is_low;
    at = λ s. let (h, w, q) = reaches p (rules G B) is_high G.open_end B.some_vertex (order G B) is_low in (h, w, omega arith);
    most = most;
  }

-- Sums that are the same on all lawful walks have the same greatest one.
pub capped_same : (p : Problem) (cap : ℕ) (f g : List ℕ → ℕ) {r : ℕ} → ((h : List ℕ) → Lawful p h → f (last_vertex p ∷ h) ≡ g (last_vertex p ∷ h))
    → GreatestCapped p cap f r → GreatestCapped p cap g r
capped_same p cap f g same F = record {
  below = λ s. let m = F.below s in record {
    above = λ h w. omega (arith, m.above h w, same h w);
    reached = let (h, w, is) = m.reached in (h, w, omega (arith, same h w));
  };
  at = λ s. let (h, w, q) = F.at s in (h, w, omega (arith, same h w));
  most = F.most;
}
