-- Where every drawn graph keeps rules 4 and 6 to 9, so does the one problem.
use Prim.Native.Nat.{ℕ, zero, suc, ◌+◌, ◌≤◌, ◌<◌}
use mathlib.Core.Path.{◌≡◌, refl, sym, ap, subst, ◌∙◌}
use mathlib.Core.Bool.{true, false}
use mathlib.Core.List.{List, Memᴰ}
use Rattle.std.specs.Prelude.{Option, Some, None}
use mathlib.Core.Logic.{◌⊎◌, inl, inr, ⊎_elim}
use native.Mathlib.Omega.{arith}
use Rattle.model.specs.declared.Loop.{Loop}
use Rattle.model.specs.Graph.{holds, loops_of}
use Rattle.model.specs.Drawings.{drawn_functions, drawn_count, called_by, graph_of}
use Rattle.model.proofs.Cases.{by_order}
use Rattle.greatest.proofs.Loops.{holds_from, holds_to, holds_not, same_header}
use Rattle.calls.proofs.States.{Callers, nobody, from, State, spot, Fits, Valid, Step, call, go, back, at, pos, base, number, Drawn}
use Rattle.calls.proofs.Number.{fits_known, not_last, size_last, is_number, at_number, one_state, spotted}
use Rattle.calls.proofs.Runs.{Joined, joined, pos_up, pos_less, pos_inside, keeps, room, below}
use Rattle.calls.proofs.Stretch.{stretch, Ring, stretch_header, stretch_last, stretch_holds}
use Rattle.calls.proofs.Lawful.{Lawful, DrawnLawful}
use Rattle.calls.proofs.Edges.{Along, exit, along}
use Rattle.calls.proofs.Whereabouts.{Inside, ring_last, whereabouts}

module _ (d : List ℕ) (size : ℕ → ℕ) (D : Drawn d size) (L : DrawnLawful d) where
  -- Rule 6: an edge from below,
  reach_state : (t : State) → Valid d t → 0 < number d size t → (s : State) × Valid d s × (number d size s < number d size t) × Step d s t
  unfolding number base pos
  reach_state (spot f zero nobody) p l = let z : ⊥ = omega arith in elim z [ ]
  reach_state (spot f zero (from g u c)) p l = (spot g u c, (p.1.1, p.1.2), omega arith, call p.1.0)
  reach_state (spot f (suc v) c) p l =
      let (u, low, e) = (L f (fits_known d size D f c p.1)).reached (suc v) p.0 (omega arith) in
      let x = exit d size D f u c p.1 (omega (arith, p.0)) in
      (x.source, x.valid, omega (arith, x.counted, pos_up d size f (suc u) (suc v) low), x.leaves (suc v) e)

  pub rule_reached : (v : ℕ) → v < size 0 → 0 < v → (u : ℕ) × (u < v) × Joined d (size 0) u v
  rule_reached v l p =
      let b = spotted d size D v l in
      let (s, valid, low, x) = reach_state (at d v) b.valid (omega (arith, b.counted)) in
      (number d size s, omega (arith, b.counted), (below d size D s valid, l, rw (at_number d size D s valid) x))

  -- and an edge out.
  return_state :
      (f v : ℕ) (c : Callers) → Fits d f c → suc v ≡ drawn_count d f → suc (base d size c + pos d size f v) < size 0 → (t : State) × Step d (spot f v c) t
  unfolding base
  return_state f v nobody fits e m = let z : ⊥ = omega (arith, size_last d size D f v (fits_known d size D f nobody fits) e, ap size fits) in elim z [ ]
  return_state f v (from g u c) fits e m =
      let k = fits_known d size D g c fits.2 in
      let (w, x) = (L g k).leads u (not_last d size D g u f k fits.1 fits.0) in
      (spot g w c, back e x)

  lead_state : (s : State) → Valid d s → suc (number d size s) < size 0 → (t : State) × Step d s t
  unfolding number
  lead_state (spot f v c) p l = by_call (called_by d f v) refl
    where
      by_call : (o : Option ℕ) → called_by d f v ≡ o → (t : State) × Step d (spot f v c) t
      by_call (Some g) e = (spot g 0 (from f v c), call e)
      by_call None e =
          by_order (suc v) (drawn_count d f)
          (λ q. let (w, x) = (L f (fits_known d size D f c p.1)).leads v q in (spot f w c, go e x))
          (λ q. return_state f v c p.1 (omega (arith, p.0)) l)

  pub rule_leads : (v : ℕ) → suc v < size 0 → (w : ℕ) × Joined d (size 0) v w
  rule_leads v l =
      let b = spotted d size D v (omega arith) in
      let (t, x) = lead_state (at d v) b.valid (omega (arith, b.counted)) in
      let q = keeps d size D (at d v) t x b.valid in
      (number d size t, (omega arith, below d size D t q, rw (at_number d size D t q) x))

  -- Rules 3 and 7: a range is not empty and does not hold the last vertex.
  pub rule_wide : (x : Loop) → Ring d size x → x.header ≤ x.last
  rule_wide x (f, l, c, p, i, e) =
      let wide = (L f (fits_known d size D f c p.1)).wide l i in
      rw e (omega (arith, stretch_header d size f l c, stretch_last d size f l c, pos_up d size f l.header l.last wide, pos_less d size f l.last))

  last_in : (f : ℕ) (l : Loop) (c : Callers) → Fits d f c → Memᴰ l (loops_of (graph_of d f)) → suc (suc (stretch d size f l c).last) ≤ base d size c + size f
  last_in f l c fits i = ring_last d size D f l c fits ((L f (fits_known d size D f c fits)).short l i)

  pub rule_short : (x : Loop) → Ring d size x → suc x.last < size 0
  rule_short x (f, l, c, p, i, e) = rw e (omega (arith, last_in f l c p.1 i, room d size D f c p.1))

  -- Rule 8: an edge back goes to the header of a loop that holds its start,
  pub rule_return : (i j : ℕ) → Joined d (size 0) i j → j ≤ i → (x : Loop) × Ring d size x × (x.header ≡ j) × (holds x i ≡ true)
  rule_return i j e low = by_kind (along d size D i j e)
    where
      by_kind : (j ≡ suc i) ⊎ Along d size i j → (x : Loop) × Ring d size x × (x.header ≡ j) × (holds x i ≡ true)
      by_kind (inl q) = let z : ⊥ = omega arith in elim z [ ]
      by_kind (inr a) =
          by_order a.u a.w
          (λ q. let z : ⊥ = omega (arith, a.leaves, a.arrives, pos_up d size a.f (suc a.u) a.w q) in elim z [ ])
          (λ q.
          let (l, i_in, head, held) = (L a.f (fits_known d size D a.f a.c a.fits)).return a.u a.w a.drawn q in
          let step = pos_less d size a.f a.u in (
            stretch d size a.f l a.c,
            (a.f, l, a.c, (omega (arith, a.end), a.fits), i_in, refl),
            stretch_header d size a.f l a.c ∙ ap (λ (y : ℕ). base d size a.c + pos d size a.f y) head ∙ sym a.arrives,
            stretch_holds d size a.f l a.c a.u i (omega (arith, a.leaves)) (omega (arith, a.leaves)) ∙ held,
          ))

  -- and an edge into a range from outside goes to its header.
  abbrev Enters : ℕ → ℕ → State → Type 0
  Enters i j (spot f v c) =
      (l : Loop) → Memᴰ l (loops_of (graph_of d f)) → holds (stretch d size f l c) j ≡ true → holds (stretch d size f l c) i ≡ false →
      (stretch d size f l c).header ≡ j

  enters_own : (i j : ℕ) (a : Along d size i j) → Enters i j (spot a.f a.w a.c)
  enters_own i j a = λ l m hj hi.
      let starts = stretch_holds d size a.f l a.c a.u i (omega (arith, a.leaves, pos_less d size a.f a.u)) (omega (arith, a.leaves)) in
      let ends = stretch_holds d size a.f l a.c a.w j (omega (arith, a.arrives)) (omega (arith, a.arrives, pos_less d size a.f a.w)) in
      let head = (L a.f (fits_known d size D a.f a.c a.fits)).enter a.u a.w l a.drawn m (sym ends ∙ hj) (sym starts ∙ hi) in
      stretch_header d size a.f l a.c ∙ ap (λ (y : ℕ). base d size a.c + pos d size a.f y) head ∙ sym a.arrives

  -- An edge of a copy that lies in what a vertex calls starts there too.
  starts_inside :
      (i j f v : ℕ) (l : Loop) (c : Callers) (a : Along d size i j) → Inside d size f v c (spot a.f a.w a.c) →
      holds (stretch d size f l c) i ≡ holds l v
  starts_inside i j f v l c a t =
      let up = pos_inside d size D a.f a.u a.c a.fits a.start in
      let step = pos_less d size a.f a.u in
      stretch_holds d size f l c v i (omega (arith, a.leaves, t.0)) (omega (arith, a.leaves, t.1))

  enters_along : (i j : ℕ) → Along d size i j → (s : State) → Valid d s → Enters i j s
  enters_along i j a (spot f v c) p = λ l m hj hi.
      let end = is_number d size a.f a.w a.c ∙ sym a.arrives in
      let short = (L f (fits_known d size D f c p.1)).short l m in
      let w = whereabouts d size D f l c p.1 short (spot a.f a.w a.c) (a.end, a.fits) (ap (holds (stretch d size f l c)) end ∙ hj) in
      ⊎_elim
      (λ (t : spot f w.v c ≡ spot a.f a.w a.c). subst (Enters i j) (sym t) (enters_own i j a) l m hj hi)
      (λ t. holds_not l w.v w.inside (sym (starts_inside i j f w.v l c a t) ∙ hi))
      w.lie

  pub rule_enter : (i j : ℕ) (x : Loop) → Joined d (size 0) i j → Ring d size x → holds x j ≡ true → holds x i ≡ false → x.header ≡ j
  rule_enter i j x e (f, l, c, p, m, q) hj hi =
      let h = holds_from x j hj in
      ⊎_elim
      (λ t.
      by_order i x.header
      (λ a. let y : x.header ≡ j = omega arith in y)
      (λ a. holds_not x i (holds_to x i a (omega arith)) hi))
      (λ a.
      same_header q
      ∙ enters_along i j a (spot f l.header c) p l m (sym (ap (λ (y : Loop). holds y j) q) ∙ hj) (sym (ap (λ (y : Loop). holds y i) q) ∙ hi))
      (along d size D i j e)

  -- Rule 9: an edge from inside a range to its header.
  pub rule_again : (x : Loop) → Ring d size x → (i : ℕ) × (holds x i ≡ true) × Joined d (size 0) i x.header
  rule_again x (f, l, c, p, m, q) =
      let (u, held, e) = (L f (fits_known d size D f c p.1)).again l m in
      let h = holds_from l u held in
      let short = (L f (fits_known d size D f c p.1)).short l m in
      let y = exit d size D f u c p.1 (omega arith) in
      let inside = stretch_holds d size f l c u (number d size y.source) (omega (arith, y.counted, pos_less d size f u)) (omega (arith, y.counted)) in
      let head : number d size (spot f l.header c) ≡ x.header = is_number d size f l.header c ∙ sym (stretch_header d size f l c) ∙ sym (same_header q) in (
        number d size y.source,
        ap (λ (z : Loop). holds z (number d size y.source)) q ∙ inside ∙ held,
        subst (Joined d (size 0) (number d size y.source)) head (joined d size D y.source (spot f l.header c) y.valid (y.leaves l.header e)),
      )

  -- Rule 7, for two loops of one copy,
  nested_own :
      (f : ℕ) (l m : Loop) (c : Callers) → f < drawn_functions d → Memᴰ l (loops_of (graph_of d f)) → Memᴰ m (loops_of (graph_of d f)) →
      holds l m.header ≡ true → (stretch d size f l c).header < (stretch d size f m c).header → (stretch d size f m c).last ≤ (stretch d size f l c).last
  nested_own f l m c k i j h s =
      let hl = stretch_header d size f l c in
      let hm = stretch_header d size f m c in
      by_order l.header m.header
      (λ u.
      ⊎_elim
      (λ w. let z : ⊥ = omega (arith, (holds_from l m.header h).1) in elim z [ ])
      (λ w. omega (arith, stretch_last d size f l c, stretch_last d size f m c, pos_up d size f (suc m.last) (suc l.last) (omega arith)))
      ((L f k).nested l m i j u))
      (λ u. let z : ⊥ = omega (arith, pos_up d size f m.header l.header u) in elim z [ ])

  -- for any two loops where the second starts in the first,
  abbrev Nests : ℕ → Loop → Callers → State → Type 0
  Nests f l c (spot g w b) =
      (m : Loop) → Memᴰ m (loops_of (graph_of d g)) → m.header ≡ w → (stretch d size f l c).header < (stretch d size g m b).header →
      (stretch d size g m b).last ≤ (stretch d size f l c).last

  nested_in :
      (f g : ℕ) (l m : Loop) (c b : Callers) → Valid d (spot f l.header c) → Valid d (spot g m.header b) →
      Memᴰ l (loops_of (graph_of d f)) → Memᴰ m (loops_of (graph_of d g)) →
      (stretch d size f l c).header < (stretch d size g m b).header → (stretch d size g m b).header ≤ (stretch d size f l c).last →
      (stretch d size g m b).last ≤ (stretch d size f l c).last
  nested_in f g l m c b p r i j low high =
      let k = fits_known d size D f c p.1 in
      let at_m = is_number d size g m.header b in
      let head = stretch_header d size g m b in
      let n = number d size (spot g m.header b) in
      let w = whereabouts d size D f l c p.1 ((L f k).short l i) (spot g m.header b) r (holds_to (stretch d size f l c) n (omega arith) (omega arith)) in
      ⊎_elim
      (λ (e : spot f w.v c ≡ spot g m.header b). subst (Nests f l c) e (λ m' j' e' s. nested_own f l m' c k i j' (ap (holds l) e' ∙ w.inside) s) m j refl low)
      (λ e.
      omega (
        arith,
        last_in g m b r.1 j,
        stretch_last d size f l c,
        pos_up d size f (suc w.v) (suc l.last) (omega (arith, (holds_from l w.v w.inside).1)),
        e.1,
      ))
      w.lie

  -- and so for all.
  pub rule_nested : (x y : Loop) → Ring d size x → Ring d size y → x.header < y.header → (x.last < y.header) ⊎ (y.last ≤ x.last)
  rule_nested x y (f, l, c, p, i, q) (g, m, b, r, j, t) o =
      by_order x.last y.header (λ a. inl a)
      (λ a. inr (rw (q, t) (nested_in f g l m c b p r i j (rw (q, t) at o) (rw (q, t) at a))))

  -- Rule 4: loops with one header are one.
  abbrev Only : Loop → State → Type 0
  Only x (spot g w b) = (m : Loop) → Memᴰ m (loops_of (graph_of d g)) → m.header ≡ w → x ≡ stretch d size g m b

  pub rule_one : (x y : Loop) → Ring d size x → Ring d size y → x.header ≡ y.header → x ≡ y
  rule_one x y (f, l, c, p, i, q) (g, m, b, r, j, t) e =
      let hx = is_number d size f l.header c ∙ sym (stretch_header d size f l c) ∙ sym (same_header q) in
      let hy = is_number d size g m.header b ∙ sym (stretch_header d size g m b) ∙ sym (same_header t) in
      let same = one_state d size D (spot f l.header c) (spot g m.header b) p r (hx ∙ e ∙ sym hy) in
      let one = (L f (fits_known d size D f c p.1)).one in
      subst (Only x) same (λ n u v. q ∙ ap (λ (z : Loop). stretch d size f z c) (one l n i u (sym v))) m j refl ∙ sym t

  pub inlined_lawful : Lawful (size 0) (Joined d (size 0)) (Ring d size)
  inlined_lawful =
      record {
        reached = rule_reached;
        leads = rule_leads;
        wide = rule_wide;
        short = rule_short;
        nested = rule_nested;
        one = rule_one;
        enter = rule_enter;
        return = rule_return;
        again = rule_again;
      }
