-- Numbers that satisfy the equations by which a program fills them, edge by edge, are high enough and low enough.
use Prim.Native.Nat.{ℕ, ◌+◌, ◌≤◌, ◌<◌, min}
use mathlib.Core.Path.{◌≡◌, refl, ap, subst, ◌∙◌}
use mathlib.Core.List.{List, Memᴰ}
use mathlib.Core.Bool.{Bool, true, false, not}
use mathlib.Core.Logic.{◌⊎◌, inl, inr}
use native.Mathlib.Omega.{arith}
use lib.Dec.{eqb}
use borrow.Author.Tests.{eqb-true, eqb-false, not-true}
use Rattle.model.specs.declared.Loop.{Loop}
use Rattle.model.specs.Graph.{holds}
use Rattle.model.proofs.Cases.{by_bool}
use Rattle.greatest.specs.Numbers.{leave, best, Solved}
use Rattle.greatest.proofs.Loops.{before_range}
use Rattle.greatest.proofs.Rules.{Rules, Linked, enters_up}
use Rattle.greatest.proofs.Levels.{High, Low}
use Rattle.greatest.proofs.Best.{best_at, best_reached}

-- The edges are m in number, the i-th from `a i` to `b i`.
pub record Listing (a b : ℕ → ℕ) (m : ℕ) (Edge : ℕ → ℕ → Type 0) : Type 0 where
  pub at : (i : ℕ) → i < m → Edge (a i) (b i)
  pub place : (u v : ℕ) → Edge u v → (i : ℕ) × (i < m) × (a i ≡ u) × (b i ≡ v)

module _ {a b : ℕ → ℕ} {m : ℕ} {Edge : ℕ → ℕ → Type 0} (G : Listing a b m Edge) where
  -- An edge by its place.
  pub arc : (v i : ℕ) → i < m → b i ≡ v → Edge (a i) v
  arc v i r e = subst (λ (x : ℕ). Edge (a i) x) e (G.at i r)

  -- No edge that passes the test has more than the greatest value, and if there is one, one has as much.
  module _ (p : ℕ → Bool) (f : ℕ → ℕ) (v : ℕ) where
    pub none_above : (u : ℕ) → Edge u v → p u ≡ true → f u ≤ best a b p f v m
    none_above u d q =
        let (i, r, s, e) = G.place u v d in
        subst (λ (x : ℕ). f x ≤ best a b p f v m) s (best_at a b p f v m i r e (ap p s ∙ q))

    pub some_reaches : (u : ℕ) → Edge u v → p u ≡ true → (w : ℕ) × Edge w v × (p w ≡ true) × (best a b p f v m ≤ f w)
    some_reaches u d q = go (best_reached a b p f v m)
      where
        go : (best a b p f v m ≡ 0) ⊎ ((i : ℕ) × (i < m) × (b i ≡ v) × (p (a i) ≡ true) × (best a b p f v m ≤ f (a i)))
            → (w : ℕ) × Edge w v × (p w ≡ true) × (best a b p f v m ≤ f w)
        go (inl z) = (u, d, q, omega arith)
        go (inr (i, s, e, t, le)) = (a i, arc v i s e, t, le)

module _ {Edge : ℕ → ℕ → Type 0} {a b : ℕ → ℕ} {m n : ℕ} {ls : List Loop} {c : ℕ → ℕ} {e : Loop → ℕ} {D : ℕ → ℕ} {E T : Loop → ℕ} {cap : ℕ}
    (G : Listing a b m Edge) (R : Rules Edge ls) (L : Linked Edge ls n) (S : Solved a b m ls c e D E T cap n) where
  pub high : High Edge ls c e D E T cap
  high = record {
    first = omega (arith, S.first);
    head = λ v l i q. omega (arith, S.head v l i q);
    inner = λ u v d s f.
        rw (S.inner v (L.ends u v d) (λ z. omega arith) f)
        (none_above G (λ u. true) (λ u. min cap (D u + leave E T ls u v + c v)) v u d refl);
    begin = λ l i q. omega (arith, S.begin l i q);
    entry = λ u v l d i q g.
        let up = enters_up R u v l d i q g in
        rw (S.entry v l i q (λ z. omega arith))
        (none_above G (λ u. not (holds l u)) (λ u. min cap (D u + leave E T ls u v + e l)) v u d (ap not g));
    again = λ u v l d i q g.
        rw (S.again v l i q) (none_above G (λ u. holds l u) (λ u. min cap (D u + leave E T ls u v)) v u d g);
  }

  low_entry : (v : ℕ) (l : Loop) → Memᴰ l ls → l.header ≡ v
      → ((v ≡ 0) × (E l ≤ e l)) ⊎ ((u : ℕ) × Edge u v × (holds l u ≡ false) × (E l ≤ D u + leave E T ls u v + e l))
  low_entry v l i q =
      by_bool (eqb v 0)
      (λ z. let y = eqb-true v 0 z in inl (y, omega (arith, S.begin l i (omega arith))))
      (λ z. inr (later (eqb-false v 0 z)))
    where
      later : (v ≡ 0 → ⊥) → (u : ℕ) × Edge u v × (holds l u ≡ false) × (E l ≤ D u + leave E T ls u v + e l)
      later z =
          let s = L.inside l i in
          let (u, d, lt) = L.lower v (omega arith) z in
          let out = before_range l u (omega arith) in
          let p = some_reaches G (λ u. not (holds l u)) (λ u. min cap (D u + leave E T ls u v + e l)) v u d (ap not out) in
          (p.0, p.1, not-true (holds l p.0) p.2, omega (arith, S.entry v l i q z, p.3))

  pub low : Low Edge ls c e D E T n
  low = record {
    first = omega (arith, S.first);
    head = λ v l i q. omega (arith, S.head v l i q);
    inner = λ v s z f.
        let (u, d, lt) = L.lower v s z in
        let p = some_reaches G (λ u. true) (λ u. min cap (D u + leave E T ls u v + c v)) v u d refl in
        (p.0, p.1, omega (arith, S.inner v s z f, p.3));
    entry = low_entry;
    again = λ v l i q.
        let (u, d, g) = L.round l i in
        let p = some_reaches G (λ u. holds l u) (λ u. min cap (D u + leave E T ls u v)) v u (subst (λ (x : ℕ). Edge u x) q d) g in
        (p.0, p.1, p.2, omega (arith, S.again v l i q, p.3));
  }
