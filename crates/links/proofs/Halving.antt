-- The search by halving for a graph's first edge from a vertex on: what lies below `low` is from lower vertices, and what lies from `high` on is not.
use Prim.Native.Nat.{ℕ, zero, suc, ◌+◌, ◌-◌, ◌≤◌, ◌<◌}
use mathlib.Core.Path.{◌≡◌, subst}
use mathlib.Core.List.{List}
use mathlib.Core.Bool.{true, ◌&&◌}
use native.Mathlib.Omega.{arith}
use lib.Dec.{eqb, ltb}
use borrow.Author.Tests.{ltb-true, eqb-true}
use Rattle.model.specs.File.{edge_before}
use Rattle.model.specs.Drawings.{drawn_edges, drawn_edge}
use Rattle.model.proofs.Cases.{by_bool, and_left}
use Rattle.drawings.specs.Facts.{DrawnFacts}
use Rattle.links.specs.First.{FirstFrom}

before_from : (from to from' to' : ℕ) → edge_before from to from' to' ≡ true → from ≤ from'
unfolding edge_before
before_from from to from' to' e =
    by_bool (ltb from from')
    (λ q. let h = ltb-true from from' q in omega arith)
    (λ q.
    let both : (eqb from from' && ltb to to') ≡ true = rw q at e in
    let same = eqb-true from from' (and_left (eqb from from') (ltb to to') both) in
    omega arith)

pub record Between (d : List ℕ) (f v low high : ℕ) : Type 0 where
  pub order : low ≤ high
  pub within : high ≤ drawn_edges d f
  pub below : (j : ℕ) → j < low → (drawn_edge d f j).from < v
  pub above : (j : ℕ) → high ≤ j → j < drawn_edges d f → v ≤ (drawn_edge d f j).from

pub all_between : (d : List ℕ) (f v high : ℕ) → high ≡ drawn_edges d f → Between d f v 0 high
all_between d f v high e =
    record {
      order = omega arith;
      within = omega arith;
      below = λ j h. let z : ⊥ = omega arith in elim z [ ];
      above = λ j h h'. let z : ⊥ = omega arith in elim z [ ];
    }

pub met : (d : List ℕ) (f v low high : ℕ) → high ≤ low → Between d f v low high → FirstFrom d f v low
met d f v low high end b =
    record {
      within = omega (arith, b.order, b.within);
      below = b.below;
      above = λ j h h'. b.above j (omega arith) h';
    }

module _ (d : List ℕ) (f : ℕ) (facts : DrawnFacts d f) where
  rises : (i n : ℕ) → i + n < drawn_edges d f → (drawn_edge d f i).from ≤ (drawn_edge d f (i + n)).from
  rises i zero h = let e : i ≡ i + 0 = omega arith in subst (λ (k : ℕ). (drawn_edge d f i).from ≤ (drawn_edge d f k).from) e (omega arith)
  rises i (suc n) h =
      let e : i + n + 1 ≡ i + suc n = omega arith in
      subst (λ (k : ℕ). (drawn_edge d f i).from ≤ (drawn_edge d f k).from) e
      (omega (arith, rises i n (omega arith), before_from _ _ _ _ (facts.ascend (i + n) (omega arith))))

  pub ascending : (i j : ℕ) → i ≤ j → j < drawn_edges d f → (drawn_edge d f i).from ≤ (drawn_edge d f j).from
  ascending i j low high =
      let e : i + (j - i) ≡ j = omega arith in
      subst (λ (k : ℕ). (drawn_edge d f i).from ≤ (drawn_edge d f k).from) e (rises i (j - i) (omega arith))

  module _ (v low middle high : ℕ) (b : Between d f v low high) (inside : middle < high) where
    pub raised : (drawn_edge d f middle).from < v → Between d f v (middle + 1) high
    raised less =
        record {
          order = omega arith;
          within = b.within;
          below = λ j h. omega (arith, ascending j middle (omega arith) (omega (arith, b.within)));
          above = b.above;
        }

    pub lowered : low ≤ middle → v ≤ (drawn_edge d f middle).from → Between d f v low middle
    lowered from more =
        record {
          order = from;
          within = omega (arith, b.within);
          below = b.below;
          above = λ j h h'. omega (arith, ascending middle j h h');
        }
