-- The rows of an inlined drawing are the states of its call stack in turn: as many as there are, or one more than a problem may have.
use Prim.Native.Nat.{ℕ, zero, suc, ◌+◌, ◌-◌, ◌≤◌, ◌<◌, min}
use mathlib.Core.Path.{◌≡◌, refl, sym, ap, ◌∙◌}
use mathlib.Core.List.{List, [], ◌∷◌, ◌++◌}
use Rattle.std.specs.Prelude.{Option, Some, None}
use mathlib.Core.Logic.{◌⊎◌, inl, inr}
use native.Mathlib.Omega.{arith}
use native.Mathlib.Numerals.{add-one}
use lib.ListN.{length, length-append, get_or-append}
use lib.Seq.{get_or_at}
use borrow.Author.Tests.{lt-ltb, le-ltb, ne_eqb}
use Rattle.model.specs.declared.Row.{Row}
use Rattle.model.specs.Drawings.{drawn_count, called_by}
use Rattle.model.specs.Inlining.{row, row_at, behind, after, row_after, extended, one_more, rows_up_to}
use Rattle.model.proofs.Cases.{by_order}
use Rattle.calls.proofs.States.{Callers, nobody, from, State, spot, Valid, next, at, pos, base, number, Drawn}
use Rattle.calls.proofs.Number.{fits_known, pos_none, pos_some, size_last, next_call, next_on, next_pop, not_last, caller_at, at_suc, Spotted, spotted}
use Rattle.calls.proofs.Runs.{below}

-- A state's row.
unfoldable pub row_of : (d : List ℕ) (size : ℕ → ℕ) → State → Row
row_of d size (spot f v c) = row f v (base d size c)

module _ (d : List ℕ) (size : ℕ → ℕ) (D : Drawn d size) where
  -- What follows the state with number i: its next one, or nothing behind the last.
  abbrev Follows : ℕ → State → Option Row → Type 0
  Follows i s o = ((o ≡ None) × (suc i ≡ size 0)) ⊎ ((o ≡ Some (row_of d size (next d s))) × (suc i < size 0))

  module _ (i f v : ℕ) where
    called : (g : ℕ) (c : Callers) (r p : Row) → Valid d (spot f v c) → number d size (spot f v c) ≡ i → called_by d f v ≡ Some g → Follows i (spot f v c) (after d (Some g) r p i)
    unfolding row_of number base pos
    called g c r p valid is e =
        let known = D.known f v g (fits_known d size D f c valid.1) valid.0 e in
        let low = below d size D (spot g 0 (from f v c)) (D.some_vertex g known, (e, valid.0, valid.1)) in
        inr (rw (next_call d f v g c e, ← is), omega arith)

    onward : (c : Callers) (p : Row) → Valid d (spot f v c) → number d size (spot f v c) ≡ i → called_by d f v ≡ None → v + 1 < drawn_count d f
        → Follows i (spot f v c) (behind d (row f v (base d size c)) p)
    unfolding row_of number base pos
    onward c p valid is e h =
        let low = below d size D (spot f (suc v) c) (omega arith, valid.1) in
        inr (rw (lt-ltb (v + 1) (drawn_count d f) h, next_on d f v c e (omega arith), add-one), omega (arith, pos_none d size f v e))

    ended : (c : Callers) (p : Row) → Valid d (spot f v c) → number d size (spot f v c) ≡ i → called_by d f v ≡ None → drawn_count d f ≤ v + 1
        → p ≡ row_of d size (at d (base d size c - 1)) → Follows i (spot f v c) (behind d (row f v (base d size c)) p)
    unfolding row_of number base pos
    ended nobody p valid is e h caller =
        inl (rw (le-ltb (v + 1) (drawn_count d f) h), omega (arith, valid.0, size_last d size D f v (fits_known d size D f nobody valid.1) (omega (arith, valid.0)), ap size valid.1))
    ended (from g u c) p valid is e h caller =
        let fits = valid.1 in
        let on = not_last d size D g u f (fits_known d size D g c fits.2) fits.1 fits.0 in
        let low = below d size D (spot g (suc u) c) (on, fits.2) in
        inr (
          rw (
            le-ltb (v + 1) (drawn_count d f) h,
            ne_eqb (base d size c + pos d size g u + 1) 0 (λ (z : base d size c + pos d size g u + 1 ≡ 0). omega arith),
            caller,
            caller_at d size D g u c fits.2 fits.1,
            next_pop d f v (from g u c) e (omega arith),
            add-one,
          ),
          omega (arith, valid.0, pos_some d size g u f fits.0, size_last d size D f v (fits_known d size D f (from g u c) fits) (omega (arith, valid.0))),
        )

    follows : (c : Callers) (p : Row) → Valid d (spot f v c) → number d size (spot f v c) ≡ i → p ≡ row_of d size (at d (base d size c - 1))
        → Follows i (spot f v c) (after d (called_by d f v) (row f v (base d size c)) p i)
    follows c p valid is caller = by_callee (called_by d f v) refl
      where
        by_callee : (o : Option ℕ) → called_by d f v ≡ o → Follows i (spot f v c) (after d o (row f v (base d size c)) p i)
        by_callee (Some g) e = called g c (row f v (base d size c)) p valid is e
        by_callee None e = by_order (v + 1) (drawn_count d f) (λ h. onward c p valid is e h) (λ h. ended c p valid is e h caller)

  -- Rows that are the states in turn.
  pub record RowsAre (n : ℕ) (rows : List Row) : Type 0 where
    pub count : length rows ≡ min (suc n) (size 0)
    pub are : (j : ℕ) → j < length rows → row_at rows j ≡ row_of d size (at d j)

  base_low : (f v : ℕ) (c : Callers) → base d size c ≤ number d size (spot f v c)
  unfolding number
  base_low f v c = omega arith

  row_after_lem : (rows : List Row) (i : ℕ) (s : State) → i < length rows → ((j : ℕ) → j < length rows → row_at rows j ≡ row_of d size (at d j)) → at d i ≡ s → Spotted d size D i s
      → Follows i s (row_after d rows i)
  unfolding row_of row_after
  row_after_lem rows i (spot f v c) h are e spotted =
      let here = are i h ∙ ap (row_of d size) e in
      rw here (follows i f v c (row_at rows (base d size c - 1)) spotted.valid spotted.counted
      (are (base d size c - 1) (omega (arith, base_low f v c, spotted.counted))))

  some_row : 0 < size 0
  some_row = omega (arith, below d size D (spot 0 0 nobody) (D.some_vertex 0 D.first, refl))

  one_row : RowsAre 0 (row 0 0 0 ∷ [])
  unfolding row_of at base
  one_row = record { count = omega (arith, some_row); are = λ j h. (let e : j ≡ 0 = omega arith in rw e) }

  more_row : (n : ℕ) (rows : List Row) → RowsAre n rows → (o : Option Row) → Follows (length rows - 1) (at d (length rows - 1)) o → RowsAre (suc n) (extended rows o)
  more_row n rows A None (inl (e, last)) = record { count = omega (arith, A.count, some_row); are = A.are }
  more_row n rows A None (inr (e, low)) = let z : ◌≡◌ {A = ℕ} 0 1 = cc in let w : ⊥ = omega arith in elim w [ ]
  more_row n rows A (Some r) (inl (e, last)) = let z : ◌≡◌ {A = ℕ} 0 1 = cc in let w : ⊥ = omega arith in elim w [ ]
  more_row n rows A (Some r) (inr (e, low)) =
      record {
        count = omega (arith, length-append rows (r ∷ []), A.count);
        are = λ j h. by_order j (length rows) (λ k. get_or-append rows (r ∷ []) (row 0 0 0) j k ∙ A.are j k) (λ k. new j h k);
      }
    where
      same : r ≡ row_of d size (next d (at d (length rows - 1)))
      same = cc

      new : (j : ℕ) → j < length (rows ++ (r ∷ [])) → length rows ≤ j → row_at (rows ++ (r ∷ [])) j ≡ row_of d size (at d j)
      new j h k =
          let end : length rows ≡ j = omega (arith, length-append rows (r ∷ [])) in
          let turn : suc (length rows - 1) ≡ j = omega (arith, A.count, some_row) in
          get_or_at rows r [] (row 0 0 0) j end ∙ same ∙ ap (row_of d size) (sym (at_suc d (length rows - 1)) ∙ ap (at d) turn)

  pub rows_are : (n : ℕ) → RowsAre n (rows_up_to d n)
  unfolding rows_up_to one_more
  rows_are zero = one_row
  rows_are (suc n) =
      let A = rows_are n in
      let rows = rows_up_to d n in
      let last : length rows - 1 < length rows = omega (arith, A.count, some_row) in
      more_row n rows A (row_after d rows (length rows - 1))
      (row_after_lem rows (length rows - 1) (at d (length rows - 1)) last A.are refl (spotted d size D (length rows - 1) (omega (arith, A.count, some_row))))
