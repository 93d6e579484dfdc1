-- The edges of an inlined drawing ascend by row, and in a row as the drawn graph's do.
use Prim.Native.Nat.{ℕ, suc, ◌+◌, ◌-◌, ◌<◌}
use mathlib.Core.Path.{◌≡◌, refl, sym, ap, subst, ◌∙◌}
use mathlib.Core.List.{List, [], ◌∷◌, Memᴰ}
use mathlib.Core.Bool.{Bool, true, false, cond}
use Rattle.std.specs.Prelude.{Option, Some, None}
use mathlib.Core.Logic.{◌⊎◌, inl, inr}
use native.Mathlib.Omega.{arith}
use native.Mathlib.Numerals.{add-one}
use lib.ListN.{length}
use lib.Dec.{ltb, eqb}
use borrow.Author.Tests.{lt-ltb, le-ltb, eqb-true, eq-eqb, ltb-true}
use Rattle.model.specs.declared.Edge.{Edge}
use Rattle.model.specs.declared.Row.{Row}
use Rattle.model.specs.Zero.{zero_edge}
use Rattle.model.specs.File.{edge_before}
use Rattle.model.specs.Graph.{edges_of}
use Rattle.model.specs.Walks.{EdgeOf}
use Rattle.model.specs.Numbers.{table}
use Rattle.model.specs.Drawings.{drawn_functions, drawn_count, drawn_edges, drawn_edge, called_by, graph_of}
use Rattle.model.specs.Inlining.{row, row_at, number_in, along, leaving, edges_from, inlined_edges}
use Rattle.model.proofs.Cases.{by_bool, and_left, and_right}
use Rattle.drawings.specs.Facts.{DrawingFacts}
use Rattle.calls.proofs.States.{Callers, nobody, from, State, spot, Fits, Valid, at, base, number, Drawn}
use Rattle.calls.proofs.Number.{fits_known, is_number, spotted}
use Rattle.calls.proofs.Runs.{pos_up, pos_less}
use Rattle.calls.proofs.Members.{edge_count, edge_at_lem}
use Rattle.inlined.proofs.Ordered.{in_below, Ascending, next_ascending, ascending_parts, table_ascends}
use Rattle.inlined.proofs.Places.{Whole}
use Rattle.inlined.proofs.EdgesAre.{edge, in_choice, place, caller_row, listed_row, part_goes, listed, parts}

-- Edges ascend by (from, to).
abbrev pub Before : Edge → Edge → Type 0
Before a b = (a.from < b.from) ⊎ ((a.from ≡ b.from) × (a.to < b.to))

pub before_is : (a b : Edge) → edge_before a.from a.to b.from b.to ≡ true → Before a b
unfolding edge_before
before_is a b e = by_bool (ltb a.from b.from) (λ q. inl (ltb-true _ _ q)) (λ q. let r = rw q at e in
    inr (eqb-true _ _ (and_left (eqb a.from b.from) (ltb a.to b.to) r), ltb-true _ _ (and_right (eqb a.from b.from) (ltb a.to b.to) r)))

pub is_before : (a b : Edge) → Before a b → edge_before a.from a.to b.from b.to ≡ true
unfolding edge_before
is_before a b (inl h) = rw (lt-ltb a.from b.from h)
is_before a b (inr (e, h)) = rw (le-ltb a.from b.from (omega arith), eq-eqb a.from b.from e) (lt-ltb a.to b.to h)

before_through : (a b c : Edge) → Before a b → Before b c → Before a c
before_through a b c (inl p) (inl q) = inl (omega arith)
before_through a b c (inl p) (inr q) = inl (omega (arith, q.0))
before_through a b c (inr p) (inl q) = inl (omega (arith, p.0))
before_through a b c (inr p) (inr q) = inr (p.0 ∙ q.0, omega (arith, p.1, q.1))

-- A list of one ascends, and one of none.
one_ascends : {A : Type 0} (R : A → A → Type 0) (a : A) → Ascending R (a ∷ [])
unfolding Ascending
one_ascends R a = (λ b m. elim m [ ], tt)

none_ascends : {A : Type 0} (R : A → A → Type 0) → Ascending R []
unfolding Ascending
none_ascends R = tt

pub choice_ascends : {A : Type 0} (R : A → A → Type 0) (t : Bool) (a : A) → Ascending R (cond t (a ∷ []) [])
choice_ascends R true a = one_ascends R a
choice_ascends R false a = none_ascends R

-- A drawn graph's edges ascend.
drawn_ascend : (d : List ℕ) → DrawingFacts d → (f : ℕ) → f < drawn_functions d → Ascending Before (edges_of (graph_of d f))
drawn_ascend d facts f known = next_ascending Before zero_edge before_through (edges_of (graph_of d f)) (λ i h.
    let low : suc i < drawn_edges d f = omega (arith, edge_count d facts f known) in
    rw (edge_at_lem d facts f known i (omega arith), edge_at_lem d facts f known (suc i) low)
    (before_is (drawn_edge d f i) (drawn_edge d f (suc i)) (rw add-one at ((facts.drawn f known).ascend i (omega arith)))))

module _ (d : List ℕ) (facts : DrawingFacts d) (size : ℕ → ℕ) (D : Drawn d size)
    (leaves : (f v w : ℕ) → f < drawn_functions d → EdgeOf (graph_of d f) v w → suc v < drawn_count d f) (rows : List Row) (W : Whole d size D rows) where
  later : (f v w : ℕ) (c : Callers) → v < w → number d size (spot f v c) < number d size (spot f w c)
  later f v w c h = omega (arith, is_number d size f v c, is_number d size f w c, pos_less d size f v, pos_up d size f (suc v) w h)

  leaving_ascends : (i f u : ℕ) (c : Callers) → Fits d f c → Ascending Before (leaving d rows i (row f u (base d size c)))
  leaving_ascends i f u c fits =
      ascending_parts Before Before (along d rows i (row f u (base d size c))) (edges_of (graph_of d f)) (drawn_ascend d facts f (fits_known d size D f c fits))
      (λ a m. choice_ascends Before (eqb a.from u) _)
      (λ a b x y m n before p q. across a b x y m n before (in_choice (eqb a.from u) p) (in_choice (eqb b.from u) q))
    where
      across : (a b x y : Edge) → Memᴰ a (edges_of (graph_of d f)) → Memᴰ b (edges_of (graph_of d f)) → Before a b
          → (eqb a.from u ≡ true) × (x ≡ edge i (number_in rows (base d size c) a.to)) → (eqb b.from u ≡ true) × (y ≡ edge i (number_in rows (base d size c) b.to))
          → Before x y
      across a b x y m n (inl h) p q = let z : ⊥ = omega (arith, eqb-true a.from u p.0, eqb-true b.from u q.0) in elim z [ ]
      across a b x y m n (inr h) p q =
          let from_a : EdgeOf (graph_of d f) u a.to = subst (λ (v : ℕ). EdgeOf (graph_of d f) v a.to) (eqb-true a.from u p.0) m in
          let from_b : EdgeOf (graph_of d f) u b.to = subst (λ (v : ℕ). EdgeOf (graph_of d f) v b.to) (eqb-true b.from u q.0) n in
          let x_to = ap (λ (e : Edge). e.to) p.1 ∙ place d size D leaves rows W i f u c fits a.to from_a in
          let y_to = ap (λ (e : Edge). e.to) q.1 ∙ place d size D leaves rows W i f u c fits b.to from_b in
          inr (ap (λ (e : Edge). e.from) p.1 ∙ sym (ap (λ (e : Edge). e.from) q.1), omega (arith, later f a.to b.to c h.1))

  either_ascends : (t : Bool) (xs ys : List Edge) → Ascending Before xs → Ascending Before ys → Ascending Before (cond t xs ys)
  either_ascends true xs ys p q = p
  either_ascends false xs ys p q = q

  returns_ascend : (i f : ℕ) (o : Callers) → Fits d f o → Ascending Before (cond (eqb (base d size o) 0) [] (leaving d rows i (row_at rows (base d size o - 1))))
  unfolding base
  returns_ascend i f nobody fits = none_ascends Before
  returns_ascend i f (from g u o) fits =
      either_ascends (eqb (base d size (from g u o)) 0) [] (leaving d rows i (row_at rows (base d size (from g u o) - 1))) (none_ascends Before)
      (subst (λ (r : Row). Ascending Before (leaving d rows i r)) (sym (caller_row d size D leaves rows W g u o fits.2 fits.1)) (leaving_ascends i g u o fits.2))

  listed_ascends : (i : ℕ) (s : State) → Valid d s → Ascending Before (listed d size D leaves rows W i s)
  listed_ascends i (spot f v c) p = by_callee (called_by d f v)
    where
      by_callee : (o : Option ℕ) → Ascending Before (edges_from d rows o i (row f v (base d size c)))
      by_callee (Some g) = one_ascends Before _
      by_callee None =
          either_ascends (ltb (v + 1) (drawn_count d f)) (leaving d rows i (row f v (base d size c))) (cond (eqb (base d size c) 0) [] (leaving d rows i (row_at rows (base d size c - 1))))
          (leaving_ascends i f v c p.1) (returns_ascend i f c p.1)

  pub edges_ascend : Ascending Before (inlined_edges d rows)
  unfolding inlined_edges
  edges_ascend =
      ascending_parts ◌<◌ Before (parts d size D leaves rows W) (table (length rows) (λ i. i)) (table_ascends (length rows))
      (λ i m.
      let h = in_below (length rows) i m in
      subst (Ascending Before) (sym (listed_row d size D leaves rows W i (at d i) h refl)) (listed_ascends i (at d i) (spotted d size D i (omega (arith, W.count))).valid))
      (λ i j x y m n h p q.
      let from-x = ap (λ (e : Edge). e.from) (part_goes d size D leaves rows W i x (in_below (length rows) i m) p).2 in
      let from_y = ap (λ (e : Edge). e.from) (part_goes d size D leaves rows W j y (in_below (length rows) j n) q).2 in
      inl (omega arith))
