-- The rows of an inlined drawing fit, and there are at most one more than a problem may have vertices.
use Prim.Native.Nat.{ℕ, zero, suc, ◌+◌, ◌-◌, ◌≤◌, ◌<◌}
use mathlib.Core.Path.{◌≡◌, refl, ap, ◌∙◌}
use mathlib.Core.List.{List, [], ◌∷◌, ◌++◌}
use Rattle.std.specs.Prelude.{Option, Some, None}
use native.Mathlib.Omega.{arith}
use native.Mathlib.Nat.{zero-add}
use lib.ListN.{length, length-append, get_or-append}
use lib.Seq.{get_or-append_seam}
use lib.Dec.{eqb}
use borrow.Author.Tests.{eqb-false}
use borrow.Author.Count.{below_none, below_more}
use Rattle.model.specs.declared.Row.{Row}
use Rattle.model.specs.Places as places
use Rattle.model.specs.Drawings.{drawn_functions, drawn_count, called_by}
use Rattle.model.specs.Inlining.{row, row_at, after, row_after, extended, one_more, rows_up_to}
use Rattle.model.specs.Inlined.{inlined_rows}
use Rattle.model.proofs.Cases.{by_order, by_less, by_cond}
use Rattle.drawings.specs.Facts.{DrawingFacts, DrawnFacts}
use Rattle.rows.specs.Fit.{RowFits, RowsFit}

module _ (d : List ℕ) where
  -- The graph goes on behind a row's vertex.
  abbrev pub GoesOn : Row → Type 0
  GoesOn r = r.vertex + 1 < drawn_count d r.function

  -- A copy's call vertex is followed by another in its graph.
  abbrev pub Returns : List Row → Row → Type 0
  Returns s r = 0 < r.first → GoesOn (row_at s (r.first - 1))

  pub record Held (s : List Row) : Type 0 where
    pub fit : RowsFit d s
    pub returns : (i : ℕ) → i < length s → Returns s (row_at s i)

  -- What may follow rows that are held.
  abbrev Joins : List Row → Option Row → Type 0
  Joins s None = Unit {0}
  Joins s (Some r) = RowFits d (length s) r × Returns s r

  held_first : DrawingFacts d → Held (row 0 0 0 ∷ [])
  held_first facts =
      record {
        fit =
            record {
              some_row = omega arith;
              each =
                  below_more (λ (i : ℕ). RowFits d i (row_at (row 0 0 0 ∷ []) i)) 0 (below_none (λ (i : ℕ). RowFits d i (row_at (row 0 0 0 ∷ []) i)))
                  (record { function = facts.some_function; vertex = (facts.drawn 0 facts.some_function).some_vertex; first = omega arith });
            };
        returns =
            below_more (λ (i : ℕ). Returns (row 0 0 0 ∷ []) (row_at (row 0 0 0 ∷ []) i)) 0
            (below_none (λ (i : ℕ). Returns (row 0 0 0 ∷ []) (row_at (row 0 0 0 ∷ []) i)))
            (λ called. absurd (omega arith));
      }

  module _ (s : List Row) (held : Held s) where
    module _ (r : Row) (joins : Joins s (Some r)) where
      abbrev more : List Row
      more = s ++ (r ∷ [])

      earlier : (i : ℕ) → i < length s → row_at more i ≡ row_at s i
      earlier i h = get_or-append s (r ∷ []) (row 0 0 0) i h

      latest : row_at more (length s) ≡ r
      latest = get_or-append_seam s r [] (row 0 0 0)

      still_returns : (q : Row) → q.first ≤ length s → Returns s q → Returns more q
      still_returns q low returns called = rw (earlier (q.first - 1) (omega arith)) (returns called)

      held_joined : Held more
      held_joined =
          let long : length more ≡ length s + 1 = length-append s (r ∷ []) in
          record {
            fit =
                record {
                  some_row = omega arith;
                  each = λ i h.
                      below_more (λ (k : ℕ). RowFits d k (row_at more k)) (length s) (λ k lt. rw (earlier k lt) (held.fit.each k lt))
                      (rw latest joins.0) i (omega arith);
                };
            returns = λ i h.
                below_more (λ (k : ℕ). Returns more (row_at more k)) (length s)
                (λ k lt. rw (earlier k lt) (still_returns (row_at s k) (omega (arith, (held.fit.each k lt).first)) (held.returns k lt)))
                (rw latest (still_returns r joins.0.first joins.1)) i (omega arith);
          }

    held_extended : (o : Option Row) → Joins s o → Held (extended s o)
    held_extended None joins = held
    held_extended (Some r) joins = held_joined r joins

    module _ (facts : DrawingFacts d) (i : ℕ) (is_last : i ≡ length s - 1) where
      abbrev r : Row
      r = row_at s i

      abbrev caller : Row
      caller = row_at s (r.first - 1)

      last_below_lem : i < length s
      last_below_lem = omega (arith, held.fit.some_row)

      fits : RowFits d i r
      fits = held.fit.each i last_below_lem

      graph : DrawnFacts d r.function
      graph = facts.drawn r.function fits.function

      -- A graph's last vertex calls nothing.
      call_goes_on : (g : ℕ) → called_by d r.function r.vertex ≡ Some g → GoesOn r
      call_goes_on g e =
          by_order (r.vertex + 1) (drawn_count d r.function) (λ h. h)
          (λ h.
          let at_end_lem : r.vertex ≡ drawn_count d r.function - 1 = omega (arith, fits.vertex) in
          let quiet : called_by d r.function r.vertex ≡ None = ap (called_by d r.function) at_end_lem ∙ graph.quiet in
          let z : ◌≡◌ {A = ℕ} 0 1 = cc in
          absurd (omega arith))

      joins_callee : (g : ℕ) → called_by d r.function r.vertex ≡ Some g → Joins s (Some (row g 0 (i + 1)))
      joins_callee g e =
          let known : g < drawn_functions d = graph.known r.vertex g fits.vertex e in
          let here : i + 1 - 1 ≡ i = omega arith in (
            record { function = known; vertex = (facts.drawn g known).some_vertex; first = omega (arith, last_below_lem) },
            λ called. rw here (call_goes_on g e),
          )

      joins_next : GoesOn r → Joins s (Some (row r.function (r.vertex + 1) r.first))
      joins_next h =
          (record { function = fits.function; vertex = h; first = omega (arith, last_below_lem, fits.first) }, held.returns i last_below_lem)

      joins_back : (r.first ≡ 0 → ⊥) → Joins s (Some (row caller.function (caller.vertex + 1) caller.first))
      joins_back called =
          let below : r.first - 1 < length s = omega (arith, last_below_lem, fits.first) in (
            record {
              function = (held.fit.each (r.first - 1) below).function;
              vertex = held.returns i last_below_lem (omega arith);
              first = omega (arith, below, (held.fit.each (r.first - 1) below).first);
            },
            held.returns (r.first - 1) below,
          )

      joins_after : (o : Option ℕ) → called_by d r.function r.vertex ≡ o → Joins s (after d o r caller i)
      joins_after (Some g) e = joins_callee g e
      joins_after None e =
          by_less (Joins s) (r.vertex + 1) (drawn_count d r.function) joins_next
          (λ h. by_cond (Joins s) (eqb r.first 0) (λ q. tt) (λ q. joins_back (eqb-false r.first 0 q)))

    held_more : DrawingFacts d → Held (one_more d s)
    unfolding one_more row_after
    held_more facts = held_extended (row_after d s (length s - 1)) (joins_after facts (length s - 1) refl _ refl)

  pub rows_held : DrawingFacts d → (n : ℕ) → Held (rows_up_to d n)
  unfolding rows_up_to
  rows_held facts zero = held_first facts
  rows_held facts (suc n) = held_more (rows_up_to d n) (rows_held facts n) facts

  pub rows_fit : DrawingFacts d → RowsFit d (inlined_rows d)
  rows_fit facts = (rows_held facts places.most_vertices).fit

  extended_length : (s : List Row) (o : Option Row) → length (extended s o) ≤ length s + 1
  extended_length s None = omega arith
  extended_length s (Some r) = omega (arith, length-append s (r ∷ []))

  rows_length : (n : ℕ) → length (rows_up_to d n) ≤ n + 1
  unfolding rows_up_to one_more
  rows_length zero = omega arith
  rows_length (suc n) = omega (arith, extended_length (rows_up_to d n) (row_after d (rows_up_to d n) (length (rows_up_to d n) - 1)), rows_length n)

  pub rows_few : length (inlined_rows d) ≤ places.most_vertices + 1
  rows_few = rows_length places.most_vertices

  -- Where nothing follows, there are no more rows.
  pub rows_end : (n k : ℕ) → row_after d (rows_up_to d n) (length (rows_up_to d n) - 1) ≡ None → rows_up_to d (k + n) ≡ rows_up_to d n
  unfolding rows_up_to one_more
  rows_end n zero e = ap (rows_up_to d) (zero-add n)
  rows_end n (suc k) e =
      let one : suc k + n ≡ suc (k + n) = omega arith in
      ap (rows_up_to d) one ∙ ap (one_more d) (rows_end n k e) ∙ ap (extended (rows_up_to d n)) e
