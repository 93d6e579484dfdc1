-- The edges of the one problem, in the request's words: one from each call vertex to the next number, its copy's first vertex, and for each edge from
-- u to w of a copy one from u, or from the last vertex of the copy that u calls, to w.
use Prim.Native.Nat.{ℕ, suc, ◌+◌, ◌<◌}
use mathlib.Core.Path.{◌≡◌, refl, sym, subst, ◌∙◌}
use mathlib.Core.List.{List}
use Rattle.std.specs.Prelude.{Option, Some, None}
use mathlib.Core.Logic.{◌⊎◌, inl, inr}
use native.Mathlib.Omega.{arith}
use Rattle.model.specs.Walks.{EdgeOf}
use Rattle.model.specs.Drawings.{drawn_count, called_by, graph_of}
use Rattle.calls.proofs.States.{Callers, from, State, spot, Fits, Valid, Step, call, go, back, at, pos, base, number, Drawn}
use Rattle.calls.proofs.Number.{calls_not, fits_known, last_of, pos_none, pos_some, size_last, is_number, at_number, spotted}
use Rattle.calls.proofs.Runs.{Joined, joined}

module _ (d : List ℕ) (size : ℕ → ℕ) where
  -- Where the edges out of vertex u of a copy start: at u, or at the last vertex of the copy that u calls.
  pub record Exit (f u : ℕ) (c : Callers) : Type 0 where
    pub source : State
    pub valid : Valid d source
    pub leaves : (w : ℕ) → EdgeOf (graph_of d f) u w → Step d source (spot f w c)
    pub counted : suc (number d size source) ≡ base d size c + pos d size f (suc u)

  -- An edge of the one problem that goes along an edge of one copy.
  pub record Along (i j : ℕ) : Type 0 where
    pub f : ℕ
    pub u : ℕ
    pub w : ℕ
    pub c : Callers
    pub fits : Fits d f c
    pub start : u < drawn_count d f
    pub end : w < drawn_count d f
    pub drawn : EdgeOf (graph_of d f) u w
    pub leaves : suc i ≡ base d size c + pos d size f (suc u)
    pub arrives : j ≡ base d size c + pos d size f w

abbrev callee_at : List ℕ → State → Option ℕ
callee_at d (spot f v c) = called_by d f v

module _ (d : List ℕ) (size : ℕ → ℕ) (D : Drawn d size) where
  pub exit : (f u : ℕ) (c : Callers) → Fits d f c → u < drawn_count d f → Exit d size f u c
  unfolding number base
  exit f u c fits l = by_call (called_by d f u) refl
    where
      by_call : (o : Option ℕ) → called_by d f u ≡ o → Exit d size f u c
      by_call None e = record { source = spot f u c; valid = (l, fits); leaves = λ w x. go e x; counted = omega (arith, pos_none d size f u e) }
      by_call (Some g) e =
          let k = D.known f u g (fits_known d size D f c fits) l e in
          let v = last_of d size D g k in
          record {
            source = spot g v.0 (from f u c);
            valid = (omega (arith, v.1), (e, l, fits));
            leaves = λ w x. back v.1 x;
            counted = omega (arith, pos_some d size f u g e, size_last d size D g v.0 k v.1);
          }

  along_step :
      (s t : State) → Step d s t → Valid d s → (number d size t ≡ suc (number d size s)) ⊎ Along d size (number d size s) (number d size t)
  unfolding number base pos
  along_step s t (call {f} {v} {g} {c} e) p = inl (omega arith)
  along_step s t (go {f} {v} {w} {c} e x) p =
      inr (record {
        f = f;
        u = v;
        w = w;
        c = c;
        fits = p.1;
        start = p.0;
        end = D.inside f v w (fits_known d size D f c p.1) x;
        drawn = x;
        leaves = omega (arith, pos_none d size f v e);
        arrives = refl;
      })
  along_step s t (back {g} {v} {f} {u} {w} {c} e x) p =
      inr (record {
        f = f;
        u = u;
        w = w;
        c = c;
        fits = p.1.2;
        start = p.1.1;
        end = D.inside f u w (fits_known d size D f c p.1.2) x;
        drawn = x;
        leaves = omega (arith, pos_some d size f u g p.1.0, size_last d size D g v (fits_known d size D g (from f u c) p.1) e);
        arrives = refl;
      })

  pub along : (i j : ℕ) → Joined d (size 0) i j → (j ≡ suc i) ⊎ Along d size i j
  along i j e =
      let a = spotted d size D i e.0 in
      let b = spotted d size D j e.1 in
      rw (a.counted, b.counted) at (along_step (at d i) (at d j) e.2 a.valid)

  pub along_joined : (i j : ℕ) → Along d size i j → Joined d (size 0) i j
  along_joined i j a =
      let x = exit a.f a.u a.c a.fits a.start in
      let y = joined d size D x.source (spot a.f a.w a.c) x.valid (x.leaves a.w a.drawn) in
      let leaves : number d size x.source ≡ i = omega (arith, x.counted, a.leaves) in
      let arrives : number d size (spot a.f a.w a.c) ≡ j = is_number d size a.f a.w a.c ∙ sym a.arrives in
      rw (leaves, arrives) at y

  pub call_joined :
      (f v g : ℕ) (c : Callers) → Valid d (spot f v c) → called_by d f v ≡ Some g →
      Joined d (size 0) (number d size (spot f v c)) (suc (number d size (spot f v c)))
  unfolding number base pos
  call_joined f v g c p e =
      let next : base d size c + pos d size f v + 1 + 0 ≡ suc (base d size c + pos d size f v) = omega arith in
      subst (Joined d (size 0) (base d size c + pos d size f v)) next (joined d size D (spot f v c) (spot g 0 (from f v c)) p (call e))

  -- A call vertex leads nowhere else.
  only : (s t : State) (g : ℕ) → Step d s t → Valid d s → callee_at d s ≡ Some g → number d size t ≡ suc (number d size s)
  unfolding number base pos
  only s t g (call {f} {v} {g = h} {c} e) p q = omega arith
  only s t g (go {f} {v} {w} {c} e x) p q = calls_not q e
  only s t g (back {g = h} {v} {f} {u} {w} {c} e x) p q = calls_not q (D.quiet h v (fits_known d size D h (from f u c) p.1) e)

  pub call_only :
      (f v g j : ℕ) (c : Callers) → Valid d (spot f v c) → called_by d f v ≡ Some g → Joined d (size 0) (number d size (spot f v c)) j →
      j ≡ suc (number d size (spot f v c))
  call_only f v g j c p e x =
      let t = spotted d size D j x.1 in
      sym t.counted ∙ only (spot f v c) (at d j) g (rw (at_number d size D (spot f v c) p) at x.2) p e
