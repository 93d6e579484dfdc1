-- The edges of an inlined drawing are the steps of its call stack, and they ascend.
use Prim.Native.Nat.{ℕ, suc, ◌+◌, ◌-◌, ◌≤◌, ◌<◌}
use mathlib.Core.Path.{◌≡◌, refl, sym, ap, subst, ◌∙◌}
use mathlib.Core.List.{List, [], ◌∷◌, Memᴰ}
use mathlib.Core.Bool.{Bool, true, false, cond}
use Rattle.std.specs.Prelude.{Option, Some, None}
use native.Mathlib.Omega.{arith}
use lib.ListN.{length}
use lib.Dec.{eqb}
use borrow.Author.Tests.{lt-ltb, le-ltb, eqb-true, eq-eqb, ne_eqb}
use Rattle.model.specs.declared.Edge.{Edge}
use Rattle.model.specs.declared.Row.{Row}
use Rattle.model.specs.Graph.{edges_of}
use Rattle.model.specs.Walks.{EdgeOf}
use Rattle.model.specs.Numbers.{table}
use Rattle.model.specs.Drawings.{drawn_functions, drawn_count, called_by, graph_of}
use Rattle.model.specs.Inlining.{row, row_at, number_in, along, leaving, out_of, edges_from, inlined_edges}
use Rattle.model.proofs.Cases.{by_order}
use Rattle.calls.proofs.States.{Callers, nobody, from, State, spot, Fits, Valid, Step, call, go, back, at, pos, base, number, Drawn}
use Rattle.calls.proofs.Number.{fits_known, at_number, spotted}
use Rattle.calls.proofs.Runs.{Joined, keeps, below}
use Rattle.inlined.proofs.Ordered.{in_part, part_in, below_in, in_below}
use Rattle.inlined.proofs.RowsAre.{row_of}
use Rattle.inlined.proofs.Places.{Whole, row_at_lem, number_in_lem}

abbrev pub edge : ℕ → ℕ → Edge
edge u v = record { from = u; to = v }

-- A member of a list of one, or of none.
in_one : {A : Type 0} {a b : A} → Memᴰ a (b ∷ []) → a ≡ b
in_one (mathlib.Core.List.Memᴰ.head e) = e
in_one (mathlib.Core.List.Memᴰ.tail m) = elim m [ ]

pub in_choice : {A : Type 0} (t : Bool) {a b : A} → Memᴰ a (cond t (b ∷ []) []) → (t ≡ true) × (a ≡ b)
in_choice true m = (refl, in_one m)
in_choice false m = elim m [ ]

pub choice_in : {A : Type 0} (t : Bool) {a b : A} → t ≡ true → a ≡ b → Memᴰ a (cond t (b ∷ []) [])
choice_in t p e = rw p (mathlib.Core.List.Memᴰ.head e)

module _ (d : List ℕ) (size : ℕ → ℕ) (D : Drawn d size) (leaves : (f v w : ℕ) → f < drawn_functions d → EdgeOf (graph_of d f) v w → suc v < drawn_count d f)
    (rows : List Row) (W : Whole d size D rows) where
  -- An edge of a copy's graph, from the row that has number i.
  abbrev Along : ℕ → ℕ → ℕ → Callers → Edge → Type 0
  Along i f u c x = (w : ℕ) × EdgeOf (graph_of d f) u w × (x ≡ edge i (number d size (spot f w c)))

  module _ (i f u : ℕ) (c : Callers) (fits : Fits d f c) where
    pub place : (w : ℕ) → EdgeOf (graph_of d f) u w → number_in rows (base d size c) w ≡ number d size (spot f w c)
    place w e = number_in_lem d size D rows W f w c fits (D.inside f u w (fits_known d size D f c fits) e)

    leaving_along : (x : Edge) → Memᴰ x (leaving d rows i (row f u (base d size c))) → Along i f u c x
    leaving_along x m =
        let r = in_part (along d rows i (row f u (base d size c))) (edges_of (graph_of d f)) x m in
        let e = r.0 in
        let q = in_choice (eqb e.from u) r.2 in
        let drawn : EdgeOf (graph_of d f) u e.to = subst (λ (v : ℕ). EdgeOf (graph_of d f) v e.to) (eqb-true e.from u q.0) r.1 in
        (e.to, drawn, q.1 ∙ ap (edge i) (place e.to drawn))

    along_leaving : (w : ℕ) → EdgeOf (graph_of d f) u w → Memᴰ (edge i (number d size (spot f w c))) (leaving d rows i (row f u (base d size c)))
    along_leaving w e = part_in (along d rows i (row f u (base d size c))) (edges_of (graph_of d f)) (edge u w) (edge i (number d size (spot f w c))) e
        (choice_in (eqb u u) (eq-eqb u u refl) (ap (edge i) (sym (place w e))))

  -- What the row of a state lists.
  abbrev pub listed : ℕ → State → List Edge
  listed i (spot f v c) = edges_from d rows (called_by d f v) i (row f v (base d size c))

  abbrev pub Goes : ℕ → State → Edge → Type 0
  Goes i s x = (t : State) × Step d s t × (x ≡ edge i (number d size t))

  pub caller_row : (f u : ℕ) (c : Callers) → Fits d f c → u < drawn_count d f → row_at rows (base d size (from f u c) - 1) ≡ row f u (base d size c)
  unfolding base number row_of
  caller_row f u c fits low =
      ap (row_at rows) (let e : base d size c + pos d size f u + 1 - 1 ≡ base d size c + pos d size f u = omega arith in e) ∙ row_at_lem d size D rows W (spot f u c) (low, fits)

  not_first : (f u : ℕ) (c : Callers) → eqb (base d size (from f u c)) 0 ≡ false
  unfolding base
  not_first f u c = ne_eqb (base d size c + pos d size f u + 1) 0 (λ (e : base d size c + pos d size f u + 1 ≡ 0). omega arith)

  step_listed : (i : ℕ) (s t : State) → Valid d s → number d size s ≡ i → Step d s t → Memᴰ (edge i (number d size t)) (listed i s)
  unfolding number base pos
  step_listed i s t p is (call {f} {v} {g} {c} e) =
      let next : base d size c + pos d size f v + 1 + 0 ≡ i + 1 = omega arith in
      rw e (mathlib.Core.List.Memᴰ.head (ap (edge i) next))
  step_listed i s t p is (go {f} {v} {w} {c} e x) =
      let k = fits_known d size D f c p.1 in
      let on = leaves f v w k x in
      rw (e, lt-ltb (v + 1) (drawn_count d f) (omega arith)) (along_leaving i f v c p.1 w x)
  step_listed i s t p is (back {g} {v} {f} {u} {w} {c} e x) =
      rw (D.quiet g v (fits_known d size D g (from f u c) p.1) e, le-ltb (v + 1) (drawn_count d g) (omega arith), not_first f u c, caller_row f u c p.1.2 p.1.1)
      (along_leaving i f u c p.1.2 w x)

  listed_step : (i : ℕ) (s : State) (x : Edge) → Valid d s → number d size s ≡ i → Memᴰ x (listed i s) → Goes i s x
  unfolding number base pos
  listed_step i (spot f v c) x p is m = by_callee (called_by d f v) refl m
    where
      returns : (o : Callers) → Fits d f o → called_by d f v ≡ None → drawn_count d f ≤ v + 1
          → Memᴰ x (cond (eqb (base d size o) 0) [] (leaving d rows i (row_at rows (base d size o - 1)))) → Goes i (spot f v o) x
      returns nobody fits e h n = elim n [ ]
      returns (from g u o) fits e h n =
          let r = leaving_along i g u o fits.2 x (rw (not_first g u o, caller_row g u o fits.2 fits.1) at n) in
          let end : suc v ≡ drawn_count d f = omega (arith, p.0) in
          (spot g r.0 o, back end r.1, r.2)

      quiet : called_by d f v ≡ None → Memᴰ x (out_of d rows i (row f v (base d size c))) → Goes i (spot f v c) x
      quiet e n = by_order (v + 1) (drawn_count d f)
          (λ h. let r = leaving_along i f v c p.1 x (rw (lt-ltb (v + 1) (drawn_count d f) h) at n) in (spot f r.0 c, go e r.1, r.2))
          (λ h. returns c p.1 e h (rw (le-ltb (v + 1) (drawn_count d f) h) at n))

      first : (g : ℕ) → called_by d f v ≡ Some g → x ≡ edge i (i + 1) → Goes i (spot f v c) x
      first g e q =
          let next : i + 1 ≡ base d size c + pos d size f v + 1 + 0 = omega arith in
          (spot g 0 (from f v c), call e, q ∙ ap (edge i) next)

      by_callee : (o : Option ℕ) → called_by d f v ≡ o → Memᴰ x (edges_from d rows o i (row f v (base d size c))) → Goes i (spot f v c) x
      by_callee (Some g) e n = first g e (in_one n)
      by_callee None e n = quiet e n

  -- What row i lists, and the list of all.
  abbrev pub parts : ℕ → List Edge
  parts i = edges_from d rows (called_by d (row_at rows i).function (row_at rows i).vertex) i (row_at rows i)

  pub listed_row : (i : ℕ) (s : State) → i < length rows → at d i ≡ s → parts i ≡ listed i s
  unfolding row_of
  listed_row i (spot f v c) h e = ap (λ (r : Row). edges_from d rows (called_by d r.function r.vertex) i r) (W.are i h ∙ ap (row_of d size) e)

  pub part_goes : (i : ℕ) (x : Edge) → i < length rows → Memᴰ x (parts i) → Goes i (at d i) x
  part_goes i x h m =
      let here = spotted d size D i (omega (arith, W.count)) in
      listed_step i (at d i) x here.valid here.counted (subst (Memᴰ x) (listed_row i (at d i) h refl) m)

  -- The edges are the steps.
  pub edge_joined : (i j : ℕ) → Memᴰ (edge i j) (inlined_edges d rows) → Joined d (size 0) i j
  unfolding inlined_edges
  edge_joined i j m =
      let r = in_part parts (table (length rows) (λ k. k)) (edge i j) m in
      let h = in_below (length rows) r.0 r.1 in
      let k : r.0 < size 0 = omega (arith, W.count) in
      let (t, x, e) = part_goes r.0 (edge i j) h r.2 in
      let q = keeps d size D (at d r.0) t x (spotted d size D r.0 k).valid in
      let from_is : i ≡ r.0 = ap (λ (y : Edge). y.from) e in
      let to_is : j ≡ number d size t = ap (λ (y : Edge). y.to) e in
      let there : at d j ≡ t = ap (at d) to_is ∙ at_number d size D t q in
      (omega arith, omega (arith, below d size D t q), rw (from_is, there) x)

  pub joined_edge : (i j : ℕ) → Joined d (size 0) i j → Memᴰ (edge i j) (inlined_edges d rows)
  unfolding inlined_edges
  joined_edge i j (p, q, x) =
      let h : i < length rows = omega (arith, W.count) in
      let here = spotted d size D i p in
      let m = step_listed i (at d i) (at d j) here.valid here.counted x in
      let n : Memᴰ (edge i (number d size (at d j))) (parts i) = subst (Memᴰ (edge i (number d size (at d j)))) (sym (listed_row i (at d i) h refl)) m in
      part_in parts (table (length rows) (λ k. k)) i (edge i j) (below_in (length rows) i h)
      (subst (λ (k : ℕ). Memᴰ (edge i k) (parts i)) (spotted d size D j q).counted n)
