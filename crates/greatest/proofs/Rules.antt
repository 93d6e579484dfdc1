-- What the laws of the longest walk ask of a graph (rules 6 to 9 of document 01, over any edges), and what follows for an edge of a walk.
use Prim.Native.Nat.{ℕ, zero, suc, ◌≤◌, ◌<◌}
use mathlib.Core.Path.{◌≡◌, refl, sym, subst, ◌∙◌}
use mathlib.Core.List.{List, [], ◌∷◌, Memᴰ}
use mathlib.Core.Bool.{true, false}
use mathlib.Core.Logic.{◌⊎◌, inl, inr}
use native.Mathlib.Omega.{arith}
use lib.Dec.{eqb}
use borrow.Author.Tests.{eqb-true, eqb-false}
use Rattle.model.specs.declared.Loop.{Loop}
use Rattle.model.specs.Graph.{holds}
use Rattle.model.specs.Walks.{Walk, start, step, visits}
use Rattle.model.proofs.Cases.{by_bool, by_order}
use Rattle.greatest.specs.Numbers.{NoHeader}
use Rattle.greatest.proofs.Loops.{holds_from, holds_to, holds_not, Ascend, unique}
use Rattle.greatest.proofs.Stays.{visits_head, visits_up}
use Rattle.greatest.proofs.Weights.{Since}

-- What bounds the weight of every walk.
pub record Rules (Edge : ℕ → ℕ → Type 0) (ls : List Loop) : Type 0 where
  pub ascend : Ascend ls
  pub wide : (l : Loop) → Memᴰ l ls → l.header ≤ l.last
  pub enter : (u v : ℕ) (l : Loop) → Edge u v → Memᴰ l ls → holds l v ≡ true → holds l u ≡ false → l.header ≡ v
  pub back : (u v : ℕ) → Edge u v → v ≤ u → (l : Loop) × Memᴰ l ls × (l.header ≡ v) × (holds l u ≡ true)

-- What the walk that attains the numbers needs besides: n vertices, nested or disjoint ranges.
pub record Order (Edge : ℕ → ℕ → Type 0) (ls : List Loop) (n : ℕ) : Type 0 where
  pub small : (u v : ℕ) → Edge u v → u < n
  pub some_visit : (l : Loop) → Memᴰ l ls → 1 ≤ l.bound
  pub nested : (l m : Loop) → Memᴰ l ls → Memᴰ m ls → l.header < m.header → (l.last < m.header) ⊎ (m.last ≤ l.last)

-- The rules that ask for an edge, and where the vertices end.
pub record Linked (Edge : ℕ → ℕ → Type 0) (ls : List Loop) (n : ℕ) : Type 0 where
  pub ends : (u v : ℕ) → Edge u v → v < n
  pub inside : (l : Loop) → Memᴰ l ls → l.header < n
  pub lower : (v : ℕ) → v < n → (v ≡ 0 → ⊥) → (u : ℕ) × Edge u v × (u < v)
  pub round : (l : Loop) → Memᴰ l ls → (u : ℕ) × Edge u l.header × (holds l u ≡ true)

module _ {Edge : ℕ → ℕ → Type 0} {ls : List Loop} (R : Rules Edge ls) where
  pub held_head : (v : ℕ) (l : Loop) → Memᴰ l ls → l.header ≡ v → holds l v ≡ true
  held_head v l i q = let p = R.wide l i in holds_to l v (omega arith) (omega arith)

  pub one_loop : {a b : Loop} (v : ℕ) → Memᴰ a ls → Memᴰ b ls → a.header ≡ v → b.header ≡ v → a ≡ b
  one_loop v i j p q = unique R.ascend i j (p ∙ sym q)

  -- A return edge goes to the header of the only loop with that header, which holds its start.
  pub returns : (u v : ℕ) (l : Loop) → Edge u v → v ≤ u → Memᴰ l ls → l.header ≡ v → holds l u ≡ true
  returns u v l d p i q =
      let r = R.back u v d p in
      subst (λ (k : Loop). holds k u ≡ true) (one_loop v r.1 i r.2 q) r.3

  -- An edge that enters a range ascends, and so does an edge to no header, which enters nothing.
  pub enters_up : (u v : ℕ) (l : Loop) → Edge u v → Memᴰ l ls → l.header ≡ v → holds l u ≡ false → u < v
  enters_up u v l d i q g = by_order u v (λ p. p) (λ p. holds_not l u (returns u v l d p i q) g)

  pub ascends : (u v : ℕ) → Edge u v → NoHeader ls v → u < v
  ascends u v d f = by_order u v (λ p. p) (λ p. let r = R.back u v d p in absurd (f r.0 r.1 r.2))

  pub stays_in : (u v : ℕ) (l : Loop) → Edge u v → Memᴰ l ls → (l.header ≡ v → ⊥) → holds l v ≡ true → holds l u ≡ true
  stays_in u v l d i f e = by_bool (holds l u) (λ g. g) (λ g. absurd (f (R.enter u v l d i e g)))

  -- Who is in a range has visited its header.
  pub stayed : {v : ℕ} {h : List ℕ} → Walk Edge v h → (l : Loop) → Memᴰ l ls → holds l v ≡ true → 1 ≤ visits l (v ∷ h)
  stayed start l i e = let p = holds_from l 0 e in omega (arith, visits_head l 0 [] e (omega arith))
  stayed (step {u} {v} {h} t d) l i e =
      by_bool (holds l u)
      (λ q. omega (arith, visits_up l v (u ∷ h) e, stayed t l i q))
      (λ q. omega (arith, visits_head l v (u ∷ h) e (R.enter u v l d i e q)))

  -- The same beginning of a tally serves one step earlier, unless v is that beginning.
  pub since_back : {s u v : ℕ} → Edge u v → Since ls s v → (s ≡ suc v → ⊥) → Since ls s u
  since_back d (inl z) f = inl z
  since_back {u = u} {v = v} d (inr (l, i, e, q)) f = inr (l, i, stays_in u v l d i (λ z. f (omega arith)) e, q)

  module _ {n : ℕ} (O : Order Edge ls n) where
    -- Two ranges that hold a vertex are nested by their headers.
    pub nested_at : (a l : Loop) (u : ℕ) → Memᴰ a ls → Memᴰ l ls → holds a u ≡ true → holds l u ≡ true → a.header < l.header
        → l.last ≤ a.last
    nested_at a l u i j au lu p = go (O.nested a l i j p)
      where
        go : (a.last < l.header) ⊎ (l.last ≤ a.last) → l.last ≤ a.last
        go (inl x) = let y = holds_from a u au in let z = holds_from l u lu in absurd (omega arith)
        go (inr x) = x

    -- A range that is left lies inside a range that is not.
    pub leaves_inner : (a l : Loop) (u v : ℕ) → Memᴰ a ls → Memᴰ l ls → holds a u ≡ true → holds a v ≡ true
        → holds l u ≡ true → holds l v ≡ false → a.header < l.header
    leaves_inner a l u v i j au av lu lv = by_order a.header l.header (λ p. p) (λ p. by_bool (eqb l.header a.header) (same p) (outer p))
      where
        same : l.header ≤ a.header → eqb l.header a.header ≡ true → a.header < l.header
        same p q = holds_not a v av (subst (λ (m : Loop). holds m v ≡ false) (unique R.ascend j i (eqb-true _ _ q)) lv)

        outer : l.header ≤ a.header → eqb l.header a.header ≡ false → a.header < l.header
        outer p q =
            let lt : l.header < a.header = omega (arith, eqb-false l.header a.header q) in
            let x = nested_at l a u j i lu au lt in
            let y = holds_from a v av in
            holds_not l v (holds_to l v (omega arith) (omega arith)) lv

    -- So the loops that a return edge leaves lie inside the loop to whose header it goes.
    pub leaves_back : (u : ℕ) (k l : Loop) → Memᴰ k ls → Memᴰ l ls → holds k u ≡ true → holds l u ≡ true → holds l k.header ≡ false
        → (k.header < l.header) × (l.last ≤ k.last)
    leaves_back u k l i j x y z =
        let p = leaves_inner k l u k.header i j x (held_head k.header k i refl) y z in
        (p, nested_at k l u i j x y p)

    -- A range that is left begins behind the tally's beginning.
    pub leaves_since : (s u v : ℕ) → Edge u v → Since ls s v → (s ≡ suc v → ⊥) → (l : Loop) → Memᴰ l ls
        → holds l u ≡ true → holds l v ≡ false → s ≤ l.header
    leaves_since s u v d (inl z) f l j lu lv = omega arith
    leaves_since s u v d (inr (a, i, g, q)) f l j lu lv =
        omega (arith, leaves_inner a l u v i j (stays_in u v a d i (λ z. f (omega arith)) g) g lu lv)

-- Every vertex is reached by a walk.
module _ {Edge : ℕ → ℕ → Type 0} {ls : List Loop} {n : ℕ} (L : Linked Edge ls n) where
  reached_by : (f v : ℕ) → v < f → v < n → (h : List ℕ) × Walk Edge v h
  reached_by zero v p q = absurd (omega arith)
  reached_by (suc f) v p q =
      by_bool (eqb v 0)
      (λ z. ([], subst (λ (x : ℕ). Walk Edge x []) (sym (eqb-true v 0 z)) start))
      (λ z.
      let (u, d, lt) = L.lower v q (eqb-false v 0 z) in
      let (h, w) = reached_by f u (omega arith) (omega arith) in
      (u ∷ h, step w d))

  pub reached : (v : ℕ) → v < n → (h : List ℕ) × Walk Edge v h
  reached v p = reached_by (suc v) v (omega arith) p
