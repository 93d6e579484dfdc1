-- The loops of the one problem: each loop of each copy, with a range that also holds the copies that its vertices call.
use Prim.Native.Nat.{ℕ, suc, ◌+◌, ◌-◌, ◌≤◌, ◌<◌}
use mathlib.Core.Path.{◌≡◌, refl, ap, ap₂}
use mathlib.Core.Bool.{false, ◌&&◌}
use mathlib.Core.List.{List, Memᴰ}
use native.Mathlib.Omega.{arith}
use lib.Dec.{leb, eqb}
use borrow.Author.Tests.{le-leb, lt-leb, eqb-true, eqb-false, eq-eqb, ne_eqb}
use Rattle.model.specs.declared.Loop.{Loop}
use Rattle.model.specs.Graph.{holds, loops_of}
use Rattle.model.specs.Drawings.{graph_of}
use Rattle.model.proofs.Cases.{by_bool, by_order}
use Rattle.calls.proofs.States.{Callers, spot, Valid, pos, base}
use Rattle.calls.proofs.Runs.{pos_up, pos_less}

-- A loop of f in the copy of f under these callers: it ends before the vertex that follows its last one in the copy.
unfoldable pub stretch : (d : List ℕ) (size : ℕ → ℕ) → ℕ → Loop → Callers → Loop
stretch d size f l c =
    record { header = base d size c + pos d size f l.header; last = base d size c + pos d size f (suc l.last) - 1; bound = l.bound }

abbrev pub Ring : (d : List ℕ) (size : ℕ → ℕ) → Loop → Type 0
Ring d size x =
    (f : ℕ) × (l : Loop) × (c : Callers) × Valid d (spot f l.header c) × Memᴰ l (loops_of (graph_of d f)) × (x ≡ stretch d size f l c)

-- Two tests of order that say the same.
leb_same : (a b x y : ℕ) → (x ≤ y → a ≤ b) → (y < x → b < a) → leb a b ≡ leb x y
leb_same a b x y p q = by_order y x (λ l. rw (lt-leb x y l, lt-leb a b (q l))) (λ l. rw (le-leb x y l, le-leb a b (p l)))

module _ (d : List ℕ) (size : ℕ → ℕ) where
  pos_same : (f u v : ℕ) → pos d size f u ≡ pos d size f v → u ≡ v
  pos_same f u v e =
      by_order u v
      (λ l. let z : ⊥ = omega (arith, pos_up d size f (suc u) v l, pos_less d size f u) in elim z [ ])
      (λ p. by_order v u (λ l. let z : ⊥ = omega (arith, pos_up d size f (suc v) u l, pos_less d size f v) in elim z [ ]) (λ q. omega arith))

  module _ (f : ℕ) (l : Loop) (c : Callers) where
    pub stretch_header : (stretch d size f l c).header ≡ base d size c + pos d size f l.header
    unfolding stretch
    stretch_header = refl

    pub stretch_last : suc (stretch d size f l c).last ≡ base d size c + pos d size f (suc l.last)
    unfolding stretch
    stretch_last = omega (arith, pos_less d size f l.last)

    pub stretch_bound : (stretch d size f l c).bound ≡ l.bound
    unfolding stretch
    stretch_bound = refl

    -- A number at vertex v of a copy, or in what v calls, is in a stretched range exactly if v is in the range.
    pub stretch_holds :
        (v n : ℕ) → base d size c + pos d size f v ≤ n → n < base d size c + pos d size f (suc v) → holds (stretch d size f l c) n ≡ holds l v
    unfolding stretch
    stretch_holds v n p q =
        ap₂ ◌&&◌
        (leb_same (base d size c + pos d size f l.header) n l.header v
        (λ a. omega (arith, pos_up d size f l.header v a))
        (λ a. omega (arith, pos_up d size f (suc v) l.header a)))
        (leb_same n (base d size c + pos d size f (suc l.last) - 1) v l.last
        (λ a. omega (arith, pos_up d size f (suc v) (suc l.last) (omega arith)))
        (λ a. omega (arith, pos_up d size f (suc l.last) v a, pos_less d size f l.last)))

    -- Its header is the copy's vertex,
    pub stretch_heads : (v : ℕ) → eqb (stretch d size f l c).header (base d size c + pos d size f v) ≡ eqb l.header v
    unfolding stretch
    stretch_heads v =
        by_bool (eqb l.header v)
        (λ e. rw e (eq-eqb _ _ (ap (λ (x : ℕ). base d size c + pos d size f x) (eqb-true l.header v e))))
        (λ e.
        rw e
        (ne_eqb _ _ (λ (q : base d size c + pos d size f l.header ≡ base d size c + pos d size f v). eqb-false l.header v e (pos_same f l.header v (omega arith)))))

    -- and nothing in what a vertex calls.
    pub stretch_above :
        (v n : ℕ) → base d size c + pos d size f v < n → n < base d size c + pos d size f (suc v) → eqb (stretch d size f l c).header n ≡ false
    unfolding stretch
    stretch_above v n p q =
        ne_eqb _ _ (λ (e : base d size c + pos d size f l.header ≡ n).
        by_order v l.header
        (λ a. omega (arith, pos_up d size f (suc v) l.header a))
        (λ a. omega (arith, pos_up d size f l.header v a)))
