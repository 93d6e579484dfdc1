-- Laws of the table of places, filled from the last row down: the rows from i on are placed, the lowest in its spot.
use Prim.Native.Nat.{ℕ, ◌+◌, ◌-◌, ◌≤◌, ◌<◌}
use mathlib.Core.Path.{◌≡◌, sym, ap, ◌∙◌, subst}
use mathlib.Core.List.{List}
use mathlib.Core.Bool.{Bool, true, false, cond, ◌&&◌}
use native.Mathlib.Omega.{arith}
use native.Mathlib.Nat.{sub-zero}
use lib.ListN.{length, get_or, set, replicate, length-set, length-replicate, get_or-replicate}
use lib.Seq.{get_or-set_same, get_or-set_other}
use lib.Dec.{eqb}
use borrow.Author.Tests.{eq-eqb, ne_eqb}
use Rattle.model.specs.declared.Row.{Row}
use Rattle.model.specs.Places as places
use Rattle.model.specs.Search.{lowest_from}
use Rattle.model.specs.Inlining.{row_at, number_in}
use Rattle.model.proofs.Cases.{by_same, left_of_lem}
use Rattle.links.specs.Placed.{spot, spot_count, Placed, Inside}

module _ (rows : List Row) where
  abbrev is : ℕ → ℕ → ℕ → Bool
  is b w j = eqb (row_at rows j).first b && eqb (row_at rows j).vertex w

  pub record PlacedFrom (i : ℕ) (table : List ℕ) : Type 0 where
    pub within : i ≤ length rows
    pub long : length table ≡ spot_count
    pub each : (b w : ℕ) → b < places.most_vertices → w < places.most_vertices → get_or table (spot b w) 0 ≡ lowest_from (length rows - i) i (is b w)

  pub none_placed : PlacedFrom (length rows) (replicate spot_count (length rows))
  unfolding lowest_from
  none_placed =
      let none : length rows - length rows ≡ 0 = omega arith in
      record {
        within = omega arith;
        long = length-replicate spot_count (length rows);
        each = λ b w low high. rw none (get_or-replicate spot_count (spot b w) (length rows) 0 (omega arith));
      }

  module _ (i : ℕ) (table : List ℕ) (below : i < length rows) (inside : Inside rows) (placed : PlacedFrom (i + 1) table) where
    abbrev b₀ : ℕ
    b₀ = (row_at rows i).first

    abbrev w₀ : ℕ
    w₀ = (row_at rows i).vertex

    abbrev stored : List ℕ
    stored = set table (spot b₀ w₀) i

    -- The search from i on takes row i where it is the one.
    turn : (b w : ℕ) → lowest_from (length rows - i) i (is b w) ≡ cond (is b w i) i (lowest_from (length rows - (i + 1)) (i + 1) (is b w))
    unfolding lowest_from
    turn b w = rw (left_of_lem i (length rows) below)

    hit : (b w : ℕ) → b₀ ≡ b → w₀ ≡ w → is b w i ≡ true
    hit b w e e' = rw (eq-eqb b₀ b e, eq-eqb w₀ w e')

    own : (b w : ℕ) → b₀ ≡ b → w₀ ≡ w → get_or stored (spot b w) 0 ≡ lowest_from (length rows - i) i (is b w)
    own b w e e' =
        let at : spot b w ≡ spot b₀ w₀ = omega (arith, e, e') in
        ap (λ (k : ℕ). get_or stored k 0) at
        ∙ get_or-set_same table (spot b₀ w₀) i 0 (omega (arith, placed.long, inside.first i below, inside.vertex i below))
        ∙ sym (turn b w ∙ (rw (hit b w e e')))

    other : (b w : ℕ) → b < places.most_vertices → w < places.most_vertices → is b w i ≡ false → (spot b w ≡ spot b₀ w₀ → ⊥) →
        get_or stored (spot b w) 0 ≡ lowest_from (length rows - i) i (is b w)
    other b w low high miss apart =
        get_or-set_other table (spot b₀ w₀) (spot b w) i 0 apart
        ∙ placed.each b w low high
        ∙ sym (turn b w ∙ (rw miss))

    pub one_placed : PlacedFrom i stored
    one_placed =
        record {
          within = omega arith;
          long = length-set table (spot b₀ w₀) i ∙ placed.long;
          each = λ b w low high.
              by_same b₀ b
              (λ e.
              by_same w₀ w (own b w e)
              (λ apart. other b w low high (rw (eq-eqb b₀ b e, ne_eqb w₀ w apart)) (λ q. apart (omega (arith, e, inside.vertex i below)))))
              (λ apart. other b w low high (rw (ne_eqb b₀ b apart)) (λ q. apart (omega (arith, inside.vertex i below))));
        }

  pub all_placed : (i : ℕ) (table : List ℕ) → i ≤ 0 → PlacedFrom i table → Placed rows table
  unfolding number_in
  all_placed i table end p b w low high = let e : i ≡ 0 = omega arith in rw (e, sub-zero) at (p.each b w low high)

  -- Row i - 1 too.
  pub next_placed : Inside rows → (i : ℕ) (table : List ℕ) → 0 < i → PlacedFrom i table →
      PlacedFrom (i - 1) (set table (spot (row_at rows (i - 1)).first (row_at rows (i - 1)).vertex) (i - 1))
  next_placed inside i table low placed =
      let same : i ≡ i - 1 + 1 = omega arith in
      one_placed (i - 1) table (omega (arith, placed.within)) inside (subst (λ (k : ℕ). PlacedFrom k table) same placed)
