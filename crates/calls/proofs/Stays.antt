-- A run keeps the bounds, each activation those of its own graph, exactly if its walk of the one problem keeps that problem's.
use Prim.Native.Nat.{ℕ, suc, ◌+◌, ◌≤◌, ◌<◌}
use mathlib.Core.Path.{◌≡◌, refl, sym, ap, subst, ◌∙◌}
use mathlib.Core.Bool.{Bool, true, false, cond}
use mathlib.Core.List.{List, [], ◌∷◌, map, Memᴰ}
use native.Mathlib.Omega.{arith}
use lib.Dec.{eqb}
use borrow.Author.Tests.{lt-leb}
use Rattle.model.specs.declared.Loop.{Loop}
use Rattle.model.specs.Graph.{holds, loops_of}
use Rattle.model.specs.Walks.{visits, Within}
use Rattle.model.specs.Drawings.{graph_of}
use Rattle.calls.proofs.States.{Callers, nobody, from, State, spot, Fits, Valid, Step, call, go, back, pos, base, number, Drawn}
use Rattle.calls.proofs.Number.{pos_some, is_number, one_state}
use Rattle.calls.proofs.Runs.{Run, begin, then, pos_less, pos_inside, keeps, run_valid}
use Rattle.calls.proofs.Stretch.{stretch, Ring, stretch_header, stretch_bound, stretch_holds, stretch_heads, stretch_above}
use Rattle.calls.proofs.Pasts.{pasts, top, pasts_begin, pasts_call, pasts_go, pasts_back}

-- Document 01's `Within`, for the loops that a predicate tells.
abbrev pub WithinAll : (Loop → Type 0) → List ℕ → Type 0
WithinAll In [] = Unit {0}
WithinAll In (v ∷ h) = ((l : Loop) → In l → l.header ≡ v → visits l (v ∷ h) ≤ l.bound) × WithinAll In h

module _ (ls : List Loop) (In : Loop → Type 0) where
  pub within_all : ((l : Loop) → In l → Memᴰ l ls) → (h : List ℕ) → Within ls h → WithinAll In h
  unfolding Within
  within_all members [] w = tt
  within_all members (v ∷ h) w = ((λ l i. w.0 l (members l i)), within_all members h w.1)

  pub all_within : ((l : Loop) → Memᴰ l ls → In l) → (h : List ℕ) → WithinAll In h → Within ls h
  unfolding Within
  all_within members [] w = tt
  all_within members (v ∷ h) w = ((λ l i. w.0 l (members l i)), all_within members h w.1)

-- The running activation's own walk keeps the bounds of its function's graph,
abbrev pub Kept : List ℕ → State → List State → Type 0
Kept d (spot f v c) h = (l : Loop) → Memᴰ l (loops_of (graph_of d f)) → l.header ≡ v → visits l (top (pasts (spot f v c ∷ h))) ≤ l.bound

-- and did so all along.
abbrev pub Obeys : List ℕ → List State → Type 0
Obeys d [] = Unit {0}
Obeys d (s ∷ h) = Kept d s h × Obeys d h

none_yet : (l : Loop) → visits l [] ≡ 0
unfolding visits
none_yet l = refl

module _ (d : List ℕ) (size : ℕ → ℕ) where
  -- n lies in a copy that each of these call vertices has called.
  abbrev Above : ℕ → Callers → Type 0
  Above n nobody = Unit {0}
  Above n (from g u c) = (base d size c + pos d size g u < n) × (n < base d size c + pos d size g (suc u)) × Above n c

  -- An activation's own walk counts what the walk of the one problem counts; and so for those that wait.
  abbrev Match : ℕ → Callers → List ℕ → List ℕ → Type 0
  Match f c p h = (l : Loop) → Memᴰ l (loops_of (graph_of d f)) → visits (stretch d size f l c) h ≡ visits l p

  abbrev Agree : Callers → List (List ℕ) → List ℕ → Type 0
  Agree nobody ps h = Unit {0}
  Agree (from f v c) ps h = (p : List ℕ) × (rest : List (List ℕ)) × (ps ≡ (v ∷ p) ∷ rest) × Match f c (v ∷ p) h × Agree c rest h

  abbrev Ours : State → List State → Type 0
  Ours (spot f v c) h = Agree (from f v c) (pasts (spot f v c ∷ h)) (map (number d size) (spot f v c ∷ h))

  -- A visit inside a called copy changes no count of its callers.
  quiet_visit :
      (f v : ℕ) (l : Loop) (c : Callers) (n : ℕ) (p h : List ℕ) →
      base d size c + pos d size f v < n → n < base d size c + pos d size f (suc v) →
      visits (stretch d size f l c) h ≡ visits l (v ∷ p) → visits (stretch d size f l c) (n ∷ h) ≡ visits l (v ∷ p)
  unfolding visits
  quiet_visit f v l c n p h a b m = rw (stretch_holds d size f l c v n (omega arith) b, stretch_above d size f l c v n a b) (by_test (holds l v) m)
    where
      by_test : (t : Bool) → visits (stretch d size f l c) h ≡ cond t (visits l p + cond (eqb l.header v) 1 0) 0
          → cond t (visits (stretch d size f l c) h + 0) 0 ≡ cond t (visits l p + cond (eqb l.header v) 1 0) 0
      by_test true e = omega arith
      by_test false e = refl

  quiet : (c : Callers) (ps : List (List ℕ)) (h : List ℕ) (n : ℕ) → Above n c → Agree c ps h → Agree c ps (n ∷ h)
  quiet nobody ps h n a g = tt
  quiet (from f v c) ps h n a g = (g.0, g.1, g.2, (λ l i. quiet_visit f v l c n g.0 h a.0 a.1 (g.3 l i)), quiet c g.1 h n a.2 g.4)

  -- A visit of the running activation counts alike.
  own_visit :
      (f w : ℕ) (l : Loop) (c : Callers) (p h : List ℕ) → visits (stretch d size f l c) h ≡ visits l p →
      visits (stretch d size f l c) (number d size (spot f w c) ∷ h) ≡ visits l (w ∷ p)
  unfolding visits number
  own_visit f w l c p h m =
      rw (stretch_holds d size f l c w (base d size c + pos d size f w) (omega arith) (omega (arith, pos_less d size f w)), stretch_heads d size f l c w, m)

  -- At its call an activation has no visit.
  outside : (f v g : ℕ) (l : Loop) (c : Callers) → holds (stretch d size g l (from f v c)) (base d size c + pos d size f v) ≡ false
  unfolding stretch base
  outside f v g l c = rw (lt-leb (base d size c + pos d size f v + 1 + pos d size g l.header) (base d size c + pos d size f v) (omega arith))

  fresh : (f v g : ℕ) (l : Loop) (c : Callers) (h : List ℕ) → visits (stretch d size g l (from f v c)) (number d size (spot f v c) ∷ h) ≡ 0
  unfolding visits number
  fresh f v g l c h = rw (outside f v g l c)

  abbrev Bounded : List ℕ → State → Type 0
  Bounded h (spot f v c) = (l : Loop) → Memᴰ l (loops_of (graph_of d f)) → l.header ≡ v → visits (stretch d size f l c) h ≤ l.bound

  count_top :
      (f v : ℕ) (c : Callers) (h : List State) → Ours (spot f v c) h → (l : Loop) → Memᴰ l (loops_of (graph_of d f)) →
      visits (stretch d size f l c) (map (number d size) (spot f v c ∷ h)) ≡ visits l (top (pasts (spot f v c ∷ h)))
  count_top f v c h o l i = o.3 l i ∙ ap (visits l) (sym (ap top o.2))

  kept_bounded : (s : State) (h : List State) → Ours s h → Kept d s h → Bounded (map (number d size) (s ∷ h)) s
  kept_bounded (spot f v c) h o k = λ l i e. omega (arith, count_top f v c h o l i, k l i e)

  bounded_kept : (s : State) (h : List State) → Ours s h → Bounded (map (number d size) (s ∷ h)) s → Kept d s h
  bounded_kept (spot f v c) h o k = λ l i e. omega (arith, count_top f v c h o l i, k l i e)

module _ (d : List ℕ) (size : ℕ → ℕ) (D : Drawn d size) where
  above : (f : ℕ) (c : Callers) (n : ℕ) → Fits d f c → base d size c ≤ n → n < base d size c + size f → Above d size n c
  unfolding base
  above f nobody n e p q = tt
  above f (from g u c) n e p q =
      let more = pos_some d size g u f e.0 in
      (omega arith, omega (arith, more), above g c n e.2 (omega arith) (omega (arith, more, pos_inside d size D g u c e.2 e.1)))

  above_state : (f v : ℕ) (c : Callers) → Valid d (spot f v c) → Above d size (number d size (spot f v c)) c
  unfolding number
  above_state f v c p =
      above f c (base d size c + pos d size f v) p.1 (omega arith) (omega (arith, pos_less d size f v, pos_inside d size D f v c p.1 p.0))

  -- One step keeps the agreement.
  move : (s t : State) (h : List State) → Step d s t → Valid d s → Ours d size s h → Ours d size t (s ∷ h)
  move s t h (call {f} {v} {g} {c} e) p o =
      let past = map (number d size) (spot f v c ∷ h) in
      let q = keeps d size D (spot f v c) (spot g 0 (from f v c)) (call e) p in (
        [],
        pasts (spot f v c ∷ h),
        pasts_call g f v c h,
        (λ l i. own_visit d size g 0 l (from f v c) [] past (fresh d size f v g l c (map (number d size) h) ∙ sym (none_yet l))),
        quiet d size (from f v c) (pasts (spot f v c ∷ h)) past (number d size (spot g 0 (from f v c))) (above_state g 0 (from f v c) q) o,
      )
  move s t h (go {f} {v} {w} {c} e x) p o =
      let past = map (number d size) (spot f v c ∷ h) in
      let q = keeps d size D (spot f v c) (spot f w c) (go e x) p in (
        v ∷ o.0,
        o.1,
        pasts_go f w v c h o.0 o.1 o.2,
        (λ l i. own_visit d size f w l c (v ∷ o.0) past (o.3 l i)),
        quiet d size c o.1 past (number d size (spot f w c)) (above_state f w c q) o.4,
      )
  move s t h (back {g} {v} {f} {u} {w} {c} e x) p o =
      let past = map (number d size) (spot g v (from f u c) ∷ h) in
      let q = keeps d size D (spot g v (from f u c)) (spot f w c) (back e x) p in (
        u ∷ o.4.0,
        o.4.1,
        pasts_back f w g v u c h o.0 o.4.0 o.4.1 (o.2 ∙ ap (λ (r : List (List ℕ)). (v ∷ o.0) ∷ r) o.4.2),
        (λ l i. own_visit d size f w l c (u ∷ o.4.0) past (o.4.3 l i)),
        quiet d size c o.4.1 past (number d size (spot f w c)) (above_state f w c q) o.4.4,
      )

  ours : {s : State} {h : List State} → Run d s h → Ours d size s h
  ours begin = ([], [], pasts_begin, (λ l i. own_visit d size 0 0 l nobody [] [] (none_yet (stretch d size 0 l nobody) ∙ sym (none_yet l))), tt)
  ours (then {s} {t} {h} r x) = move s t h x (run_valid d size D r) (ours r)

  -- The state at a stretched header is the one at the header.
  same_spot :
      (f : ℕ) (l : Loop) (c : Callers) (s : State) → Valid d (spot f l.header c) → Valid d s → (stretch d size f l c).header ≡ number d size s →
      spot f l.header c ≡ s
  same_spot f l c s p q e = one_state d size D (spot f l.header c) s p q (is_number d size f l.header c ∙ sym (stretch_header d size f l c) ∙ e)

  bounded_ring :
      (s : State) (h : List ℕ) → Valid d s → Bounded d size h s →
      (x : Loop) → Ring d size x → x.header ≡ number d size s → visits x h ≤ x.bound
  bounded_ring s h p b x (f, l, c, v, i, e) t =
      let q = same_spot f l c s v p (sym (ap (λ (y : Loop). y.header) e) ∙ t) in
      let m = subst (Bounded d size h) (sym q) b l i refl in
      rw e (omega (arith, stretch_bound d size f l c))

  ring_bounded :
      (s : State) (h : List ℕ) → Valid d s → ((x : Loop) → Ring d size x → x.header ≡ number d size s → visits x h ≤ x.bound) → Bounded d size h s
  ring_bounded (spot f v c) h p r = λ l i t.
      omega (
        arith,
        stretch_bound d size f l c,
        r (stretch d size f l c) (f, l, c, (rw t p.0, p.1), i, refl) (stretch_header d size f l c ∙ (rw t (sym (is_number d size f v c)))),
      )

  pub lawful_walk : {s : State} {h : List State} → Run d s h → Obeys d (s ∷ h) → WithinAll (Ring d size) (map (number d size) (s ∷ h))
  lawful_walk begin o =
      let here = kept_bounded d size (spot 0 0 nobody) [] (ours begin) o.0 in
      (bounded_ring (spot 0 0 nobody) (map (number d size) (spot 0 0 nobody ∷ [])) (run_valid d size D begin) here, tt)
  lawful_walk (then {s} {t} {h} r x) o =
      let here = kept_bounded d size t (s ∷ h) (ours (then r x)) o.0 in
      (bounded_ring t (map (number d size) (t ∷ s ∷ h)) (run_valid d size D (then r x)) here, lawful_walk r o.1)

  pub lawful_run : {s : State} {h : List State} → Run d s h → WithinAll (Ring d size) (map (number d size) (s ∷ h)) → Obeys d (s ∷ h)
  lawful_run begin w =
      let here = ring_bounded (spot 0 0 nobody) (map (number d size) (spot 0 0 nobody ∷ [])) (run_valid d size D begin) w.0 in
      (bounded_kept d size (spot 0 0 nobody) [] (ours begin) here, tt)
  lawful_run (then {s} {t} {h} r x) w =
      let here = ring_bounded t (map (number d size) (t ∷ s ∷ h)) (run_valid d size D (then r x)) w.0 in
      (bounded_kept d size t (s ∷ h) (ours (then r x)) here, lawful_run r w.1)
