-- The loops of an inlined drawing are its graphs' loops in their copies, and their headers ascend.
use Prim.Native.Nat.{ℕ, suc, ◌+◌, ◌-◌, ◌<◌}
use mathlib.Core.Path.{◌≡◌, refl, sym, ap, subst, ◌∙◌}
use mathlib.Core.List.{List, flat_map, Memᴰ}
use native.Mathlib.Omega.{arith}
use native.Mathlib.Numerals.{add-one}
use lib.ListN.{length}
use lib.Dec.{eqb}
use borrow.Author.Tests.{eqb-true, eq-eqb}
use Rattle.model.specs.declared.Loop.{Loop}
use Rattle.model.specs.declared.Row.{Row}
use Rattle.model.specs.Zero.{zero_loop}
use Rattle.model.specs.Graph.{loops_of}
use Rattle.model.specs.Numbers.{table}
use Rattle.model.specs.Drawings.{drawn_functions, drawn_count, drawn_loops, graph_of}
use Rattle.model.specs.Inlining.{row, row_at, number_in, around, inlined_loops}
use Rattle.drawings.specs.Facts.{DrawingFacts}
use Rattle.calls.proofs.States.{Callers, State, spot, Fits, Valid, at, base, number, Drawn}
use Rattle.calls.proofs.Number.{fits_known, is_number, spotted}
use Rattle.calls.proofs.Runs.{below}
use Rattle.calls.proofs.Members.{loop_count_lem, loop_at_lem, every_loop}
use Rattle.calls.proofs.Stretch.{stretch, Ring}
use Rattle.inlined.proofs.Ordered.{in_part, part_in, below_in, in_below, Ascending, next_ascending, ascending_parts, table_ascends}
use Rattle.inlined.proofs.RowsAre.{row_of}
use Rattle.inlined.proofs.Places.{Whole, row_at_lem, number_in_lem}
use Rattle.inlined.proofs.EdgesAre.{in_choice, choice_in}
use Rattle.inlined.proofs.EdgesAscend.{choice_ascends}

-- Loops ascend by header.
abbrev pub Before : Loop → Loop → Type 0
Before a b = a.header < b.header

-- A drawn graph's loops ascend.
drawn_ascend : (d : List ℕ) → DrawingFacts d → (f : ℕ) → f < drawn_functions d → Ascending Before (loops_of (graph_of d f))
drawn_ascend d facts f known = next_ascending Before zero_loop (λ a b c p q. omega arith) (loops_of (graph_of d f)) (λ i h.
    let low : suc i < drawn_loops d f = omega (arith, loop_count_lem d facts f known) in
    rw (loop_at_lem d facts f known i (omega arith), loop_at_lem d facts f known (suc i) low) (rw add-one at ((facts.drawn f known).headers i (omega arith))))

module _ (d : List ℕ) (facts : DrawingFacts d) (size : ℕ → ℕ) (D : Drawn d size) (rows : List Row) (W : Whole d size D rows) where
  -- The loop that a graph's loop is from row i on.
  abbrev placed : ℕ → ℕ → Loop → Loop
  placed i first l = record { header = i; last = number_in rows first (l.last + 1) - 1; bound = l.bound }

  ends_inside : (f : ℕ) → f < drawn_functions d → (l : Loop) → Memᴰ l (loops_of (graph_of d f)) → l.last + 1 < drawn_count d f
  ends_inside f k = every_loop d facts f k (λ l. l.last + 1 < drawn_count d f) (facts.drawn f k).last

  -- In a copy of f under c it is the stretched one.
  placed_is : (f : ℕ) (c : Callers) (l : Loop) → Fits d f c → Memᴰ l (loops_of (graph_of d f)) → placed (number d size (spot f l.header c)) (base d size c) l ≡ stretch d size f l c
  unfolding stretch
  placed_is f c l fits m =
      let header = is_number d size f l.header c in
      let end = number_in_lem d size D rows W f (l.last + 1) c fits (ends_inside f (fits_known d size D f c fits) l m) ∙ is_number d size f (l.last + 1) c in
      rw (header, end, add-one)

  -- What the row of a state lists.
  abbrev listed : ℕ → Row → List Loop
  listed i r = flat_map (around d rows i r) (loops_of (graph_of d r.function))

  abbrev Heads : State → Loop → Type 0
  Heads (spot f v c) x = (l : Loop) × Memᴰ l (loops_of (graph_of d f)) × (l.header ≡ v) × (x ≡ placed (number d size (spot f v c)) (base d size c) l)

  listed_heads : (s : State) (x : Loop) → Memᴰ x (listed (number d size s) (row_of d size s)) → Heads s x
  unfolding row_of
  listed_heads (spot f v c) x m =
      let r = in_part (around d rows (number d size (spot f v c)) (row f v (base d size c))) (loops_of (graph_of d f)) x m in
      let q = in_choice (eqb r.0.header v) r.2 in
      (r.0, r.1, eqb-true r.0.header v q.0, q.1)

  heads_ring : (s : State) (x : Loop) → Valid d s → Heads s x → Ring d size x
  heads_ring (spot f v c) x p (l, m, h, e) =
      (f, l, c, (rw h p.0, p.1), m, e ∙ ap (λ (w : ℕ). placed (number d size (spot f w c)) (base d size c) l) (sym h) ∙ placed_is f c l p.1 m)

  row_listed : (i : ℕ) → i < length rows → listed i (row_at rows i) ≡ listed (number d size (at d i)) (row_of d size (at d i))
  row_listed i h =
      ap (listed i) (W.are i h)
      ∙ ap (λ (k : ℕ). listed k (row_of d size (at d i))) (sym (spotted d size D i (omega (arith, W.count))).counted)

  abbrev parts : ℕ → List Loop
  parts i = listed i (row_at rows i)

  -- The loops are the rings.
  pub loop_ring : (x : Loop) → Memᴰ x (inlined_loops d rows) → Ring d size x
  unfolding inlined_loops
  loop_ring x m =
      let (i, in_rows, n) = in_part parts (table (length rows) (λ k. k)) x m in
      let h = in_below (length rows) i in_rows in
      let valid = (spotted d size D i (omega (arith, W.count))).valid in
      heads_ring (at d i) x valid (listed_heads (at d i) x (subst (Memᴰ x) (row_listed i h) n))

  ring_listed : (f : ℕ) (l : Loop) (c : Callers) → Memᴰ l (loops_of (graph_of d f)) → Memᴰ (placed (number d size (spot f l.header c)) (base d size c) l) (listed (number d size (spot f l.header c)) (row f l.header (base d size c)))
  ring_listed f l c m =
      part_in (around d rows (number d size (spot f l.header c)) (row f l.header (base d size c))) (loops_of (graph_of d f)) l _ m
      (choice_in (eqb l.header l.header) (eq-eqb l.header l.header refl) refl)

  pub ring_loop : (x : Loop) → Ring d size x → Memᴰ x (inlined_loops d rows)
  unfolding inlined_loops row_of
  ring_loop x (f, l, c, p, m, e) =
      let i = number d size (spot f l.header c) in
      let h : i < length rows = omega (arith, below d size D (spot f l.header c) p, W.count) in
      let here = ring_listed f l c m in
      let there : Memᴰ (placed i (base d size c) l) (parts i) = subst (λ (r : Row). Memᴰ (placed i (base d size c) l) (listed i r)) (sym (row_at_lem d size D rows W (spot f l.header c) p)) here in
      subst (λ (y : Loop). Memᴰ y (inlined_loops d rows)) (placed_is f c l p.1 m ∙ sym e)
      (part_in parts (table (length rows) (λ k. k)) i (placed i (base d size c) l) (below_in (length rows) i h) there)

  listed_header : (i : ℕ) (r : Row) (x : Loop) → Memᴰ x (listed i r) → x.header ≡ i
  listed_header i r x m =
      let n = in_part (around d rows i r) (loops_of (graph_of d r.function)) x m in
      ap (λ (l : Loop). l.header) (in_choice (eqb n.0.header r.vertex) n.2).1

  listed_ascends : (i : ℕ) (r : Row) → r.function < drawn_functions d → Ascending Before (listed i r)
  listed_ascends i r known =
      ascending_parts Before Before (around d rows i r) (loops_of (graph_of d r.function)) (drawn_ascend d facts r.function known)
      (λ l m. choice_ascends Before (eqb l.header r.vertex) _)
      (λ a b x y m n before p q.
      let in-a = eqb-true a.header r.vertex (in_choice (eqb a.header r.vertex) p).0 in
      let in_b = eqb-true b.header r.vertex (in_choice (eqb b.header r.vertex) q).0 in
      let z : ⊥ = omega arith in elim z [ ])

  row_known : (s : State) → Valid d s → (row_of d size s).function < drawn_functions d
  unfolding row_of
  row_known (spot f v c) p = fits_known d size D f c p.1

  pub loops_ascend : Ascending Before (inlined_loops d rows)
  unfolding inlined_loops
  loops_ascend =
      ascending_parts ◌<◌ Before parts (table (length rows) (λ i. i)) (table_ascends (length rows))
      (λ i m.
      let h = in_below (length rows) i m in
      let known = row_known (at d i) (spotted d size D i (omega (arith, W.count))).valid in
      listed_ascends i (row_at rows i) (rw (W.are i h) known))
      (λ i j x y m n h p q.
      let at_x = listed_header i (row_at rows i) x p in
      let at_y = listed_header j (row_at rows j) y q in
      omega arith)
