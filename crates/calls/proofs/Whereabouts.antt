-- Where a number of the one problem lies: at a vertex of a copy, or in a copy that lies whole in what such a vertex calls.
use Prim.Native.Nat.{ℕ, zero, suc, ◌+◌, ◌≤◌, ◌<◌}
use mathlib.Core.Path.{◌≡◌, refl, sym, subst, ◌∙◌}
use mathlib.Core.Bool.{true}
use mathlib.Core.List.{List}
use Rattle.std.specs.Prelude.{Option, Some, None}
use mathlib.Core.Logic.{◌⊎◌, inl, inr}
use native.Mathlib.Omega.{arith}
use Rattle.model.specs.declared.Loop.{Loop}
use Rattle.model.specs.Graph.{holds}
use Rattle.model.specs.Drawings.{drawn_count, called_by}
use Rattle.model.proofs.Cases.{by_order}
use Rattle.greatest.proofs.Loops.{holds_from}
use Rattle.calls.proofs.States.{Callers, from, State, spot, Fits, Valid, pos, base, number, Drawn}
use Rattle.calls.proofs.Number.{fits_known, pos_none, pos_some, is_number, one_state}
use Rattle.calls.proofs.Runs.{pos_less, pos_inside}
use Rattle.calls.proofs.Stretch.{stretch, stretch_header, stretch_last, stretch_holds}

module _ (d : List ℕ) (size : ℕ → ℕ) where
  -- n lies in a copy of f below vertex k: at some vertex of the copy, or in what that vertex calls.
  abbrev Located : ℕ → Callers → ℕ → ℕ → Type 0
  Located f c k n = (v : ℕ) × (v < k) × (base d size c + pos d size f v ≤ n) × (n < base d size c + pos d size f (suc v))

  locate : (f : ℕ) (c : Callers) (k n : ℕ) → base d size c ≤ n → n < base d size c + pos d size f k → Located f c k n
  unfolding pos
  locate f c zero n p q = let z : ⊥ = omega arith in elim z [ ]
  locate f c (suc k) n p q =
      by_order n (base d size c + pos d size f k)
      (λ a. let t = locate f c k n p a in (t.0, omega (arith, t.1), t.2, t.3))
      (λ a. (k, omega arith, a, q))

  -- The copy that a state runs in lies in what vertex u of the copy of g under c calls.
  abbrev pub Inside : ℕ → ℕ → Callers → State → Type 0
  Inside g u c (spot f v b) = (base d size c + pos d size g u + 1 ≤ base d size b) × (base d size b + size f ≤ base d size c + pos d size g (suc u))

  -- A state is at vertex v of the copy of f under c, or runs inside what v calls.
  abbrev pub Lie : ℕ → ℕ → Callers → State → Type 0
  Lie f v c s = (spot f v c ≡ s) ⊎ Inside f v c s

  pub record Where (f : ℕ) (l : Loop) (c : Callers) (s : State) : Type 0 where
    pub v : ℕ
    pub low : v < drawn_count d f
    pub inside : holds l v ≡ true
    pub lie : Lie f v c s

module _ (d : List ℕ) (size : ℕ → ℕ) (D : Drawn d size) where
  -- The vertices of a copy, and what they call, fill it.
  locate_in : (f : ℕ) (c : Callers) (n : ℕ) → Fits d f c → base d size c ≤ n → n < base d size c + size f → Located d size f c (drawn_count d f) n
  locate_in f c n fits p q = locate d size f c (drawn_count d f) n p (omega (arith, D.sized f (fits_known d size D f c fits)))

  -- What is inside what a vertex of a called copy calls is inside what its call vertex calls.
  widen :
      (g u x v : ℕ) (c : Callers) (s : State) → Fits d x (from g u c) → v < drawn_count d x → Inside d size x v (from g u c) s → Inside d size g u c s
  unfolding base
  widen g u x v c (spot h w b) fits l y =
      (omega (arith, y.0), omega (arith, y.1, pos_inside d size D x v (from g u c) fits l, pos_some d size g u x fits.0))

  abbrev Deep : ℕ → Type 0
  Deep k =
      (g u : ℕ) (c : Callers) (s : State) → size g ≤ k → Fits d g c → u < drawn_count d g → Valid d s →
      base d size c + pos d size g u < number d size s → number d size s < base d size c + pos d size g (suc u) → Inside d size g u c s

  -- A state whose number is inside what vertex u of a copy calls runs in a copy that lies there whole.
  deep : (k : ℕ) → Deep k
  unfolding base
  deep zero g u c s few fits l p a b = let z : ⊥ = omega (arith, pos_inside d size D g u c fits l, pos_less d size g u) in elim z [ ]
  deep (suc k) g u c s few fits l p a b = by_call (deep k) (called_by d g u) refl
    where
      by_call : Deep k → (o : Option ℕ) → called_by d g u ≡ o → Inside d size g u c s
      by_call deeper None e = let z : ⊥ = omega (arith, pos_none d size g u e) in elim z [ ]
      by_call deeper (Some x) e =
          let more = pos_some d size g u x e in
          let (v, low, m, n) = locate_in x (from g u c) (number d size s) (e, l, fits) (omega arith) (omega arith) in
          by_order (base d size (from g u c) + pos d size x v) (number d size s)
          (λ t.
          widen g u x v c s (e, l, fits) low
          (deeper x v (from g u c) s (omega (arith, pos_inside d size D g u c fits l)) (e, l, fits) low p t n))
          (λ t.
          let same = one_state d size D (spot x v (from g u c)) s (low, (e, l, fits)) p (omega (arith, is_number d size x v (from g u c))) in
          subst (Inside d size g u c) same (omega arith, omega arith))

  module _ (f : ℕ) (l : Loop) (c : Callers) (fits : Fits d f c) (short : suc l.last < drawn_count d f) where
    -- A stretched range ends before its copy's last vertex.
    pub ring_last : suc (suc (stretch d size f l c).last) ≤ base d size c + size f
    ring_last = omega (arith, stretch_last d size f l c, pos_less d size f (suc l.last), pos_inside d size D f (suc l.last) c fits short)

    -- A state in a stretched range lies at a vertex of the range, or inside what such a vertex calls.
    pub whereabouts : (s : State) → Valid d s → holds (stretch d size f l c) (number d size s) ≡ true → Where d size f l c s
    whereabouts s p e =
        let h = holds_from (stretch d size f l c) (number d size s) e in
        let (v, low, m, n) = locate_in f c (number d size s) fits (omega (arith, h.0, stretch_header d size f l c)) (omega (arith, h.1, ring_last)) in
        record {
          v = v;
          low = low;
          inside = sym (stretch_holds d size f l c v (number d size s) m n) ∙ e;
          lie =
              by_order (base d size c + pos d size f v) (number d size s)
              (λ t. inr (deep (size f) f v c s (omega arith) fits low p t n))
              (λ t. inl (one_state d size D (spot f v c) s (low, fits) p (omega (arith, is_number d size f v c))));
        }
