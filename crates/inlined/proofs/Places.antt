-- Vertex w of the copy that begins at a number is found where its state is numbered.
use Prim.Native.Nat.{ℕ, ◌≤◌, ◌<◌}
use mathlib.Core.Path.{◌≡◌, refl, sym, ap, ◌∙◌}
use mathlib.Core.List.{List}
use mathlib.Core.Bool.{Bool, true, ◌&&◌}
use native.Mathlib.Omega.{arith}
use lib.ListN.{length}
use lib.Dec.{eqb}
use borrow.Author.Tests.{eqb-true, eq-eqb, ltb-true}
use Rattle.model.specs.declared.Row.{Row}
use Rattle.model.specs.Places as places
use Rattle.model.specs.Search.{lowest_below}
use Rattle.model.specs.Drawings.{drawn_count}
use Rattle.model.specs.Inlining.{row_at, number_in}
use Rattle.model.specs.Inlined.{inlined_rows}
use Rattle.model.proofs.Cases.{and_left, and_right}
use Rattle.model.proofs.Search.{exists_at, lowest_passes}
use Rattle.calls.proofs.States.{Callers, State, spot, Fits, Valid, at, pos, base, number, Drawn}
use Rattle.calls.proofs.Number.{fits_known, at_number, one_state, Spotted, spotted}
use Rattle.calls.proofs.Runs.{below}
use Rattle.inlined.proofs.RowsAre.{row_of, rows_are}

module _ (d : List ℕ) (size : ℕ → ℕ) (D : Drawn d size) where
  -- All rows of an inlined drawing, where a problem has room for them.
  pub record Whole (rows : List Row) : Type 0 where
    pub count : length rows ≡ size 0
    pub are : (j : ℕ) → j < length rows → row_at rows j ≡ row_of d size (at d j)

  pub whole : length (inlined_rows d) ≤ places.most_vertices → Whole (inlined_rows d)
  whole few = let A = rows_are d size D places.most_vertices in record { count = omega (arith, A.count); are = A.are }

  abbrev moved_to : ℕ → State → State
  moved_to w (spot f v c) = spot f w c

  -- Copies with one first vertex are one copy.
  same_copy : (f g w : ℕ) (c b : Callers) → Fits d f c → Fits d g b → base d size c ≡ base d size b → spot f w c ≡ spot g w b
  unfolding number pos
  same_copy f g w c b p q e =
      ap (moved_to w) (one_state d size D (spot f 0 c) (spot g 0 b) (D.some_vertex f (fits_known d size D f c p), p) (D.some_vertex g (fits_known d size D g b q), q) (omega arith))

  module _ (rows : List Row) (W : Whole rows) where
    -- A state's row stands at its number.
    pub row_at_lem : (s : State) → Valid d s → row_at rows (number d size s) ≡ row_of d size s
    row_at_lem s p = W.are (number d size s) (omega (arith, below d size D s p, W.count)) ∙ ap (row_of d size) (at_number d size D s p)

    module _ (f w : ℕ) (c : Callers) (fits : Fits d f c) (low : w < drawn_count d f) where
      abbrev test : ℕ → Bool
      test j = eqb (row_at rows j).first (base d size c) && eqb (row_at rows j).vertex w

      passes : test (number d size (spot f w c)) ≡ true
      unfolding row_of
      passes = let e = row_at_lem (spot f w c) (low, fits) in
          rw (ap (λ (r : Row). r.first) e, ap (λ (r : Row). r.vertex) e, eq-eqb (base d size c) (base d size c) refl) (eq-eqb w w refl)

      only : (j : ℕ) (s : State) → at d j ≡ s → Spotted d size D j s → j < length rows → test j ≡ true → j ≡ number d size (spot f w c)
      unfolding row_of
      only j (spot g x b) e sp h t =
          let here = W.are j h ∙ ap (row_of d size) e in
          let first : base d size b ≡ base d size c = sym (ap (λ (r : Row). r.first) here) ∙ eqb-true _ _ (and_left _ (eqb (row_at rows j).vertex w) t) in
          let vertex : x ≡ w = sym (ap (λ (r : Row). r.vertex) here) ∙ eqb-true _ _ (and_right (eqb (row_at rows j).first (base d size c)) _ t) in
          sym sp.counted ∙ ap (λ (y : ℕ). number d size (spot g y b)) vertex ∙ ap (number d size) (same_copy g f w b c sp.valid.1 fits first)

      pub number_in_lem : number_in rows (base d size c) w ≡ number d size (spot f w c)
      unfolding number_in
      number_in_lem =
          let k = number d size (spot f w c) in
          let found = exists_at (length rows) test k (omega (arith, below d size D (spot f w c) (low, fits), W.count)) passes in
          let j = lowest_below (length rows) test in
          let h : j < length rows = ltb-true j (length rows) found in
          only j (at d j) refl (spotted d size D j (omega (arith, W.count))) h (lowest_passes (length rows) test found)
