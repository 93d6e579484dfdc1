-- One step back from a vertex with counts that it may have: the edge by which its numbers are reached, and that the walk is less far before it.
use Prim.Native.Nat.{ℕ, suc, ◌+◌, ◌-◌, ◌≤◌, ◌<◌}
use mathlib.Core.Path.{◌≡◌, sym, ap, subst, ◌∙◌}
use mathlib.Core.List.{List, ◌∷◌, Memᴰ}
use mathlib.Core.Bool.{true, false}
use mathlib.Core.Logic.{◌⊎◌, inl, inr}
use native.Mathlib.Omega.{arith}
use lib.Dec.{eqb}
use borrow.Author.Tests.{eqb-true, eqb-false}
use Rattle.model.specs.declared.Loop.{Loop}
use Rattle.model.specs.Graph.{holds}
use Rattle.model.specs.Walks.{sum, entering}
use Rattle.model.proofs.Cases.{by_bool}
use Rattle.greatest.specs.Numbers.{left, leave, NoHeader}
use Rattle.greatest.proofs.Loops.{holds_from, holds_to, holds_not, behind_range}
use Rattle.greatest.proofs.Sums.{sum_at, sum_ge, sum_ge_at}
use Rattle.greatest.proofs.Stays.{visits_out}
use Rattle.greatest.proofs.Weights.{entering_new, Since, since_below}
use Rattle.greatest.proofs.Rules.{Rules, Order, held_head, one_loop, enters_up, ascends, stays_in, leaves_since}
use Rattle.greatest.proofs.Levels.{Low}
use Rattle.greatest.proofs.Counts.{prev, prev_out, prev_body, prev_head, prev_le, digit, digit_in, digit_after}
use Rattle.greatest.proofs.Counts.{digit_small, digit_low, far, far_low, far_lex}
use Rattle.greatest.proofs.Terms.{stay, stay_in, stay_back, left_in, turn_less}

-- The counts k are ones that a lawful walk at v may have.
abbrev pub Valid : List Loop → (Loop → ℕ) → ℕ → Type 0
Valid ls k v = (l : Loop) → Memᴰ l ls → holds l v ≡ true → (1 ≤ k l) × (k l ≤ l.bound)

module _ (Edge : ℕ → ℕ → Type 0) (ls : List Loop) (c : ℕ → ℕ) (e : Loop → ℕ) (D : ℕ → ℕ) (E T : Loop → ℕ) (n : ℕ) where
  -- An edge by which the numbers of v, at the counts k, are reached.
  pub record Down (v : ℕ) (k : Loop → ℕ) : Type 0 where
    pub source : ℕ
    pub edge : Edge source v
    pub fresh : (l : Loop) → Memᴰ l ls → holds l v ≡ true → holds l source ≡ false → k l ≡ 1
    pub valid : Valid ls (prev k v) source
    pub toll : ℕ
    pub paid : (h : List ℕ) → toll ≤ sum (entering e v (source ∷ h)) ls
    pub gain : (s : ℕ) → Since ls s v → (s ≡ suc v → ⊥)
        → D v + sum (stay s E T k v) ls ≤ D source + sum (stay s E T (prev k v) source) ls + toll + c v
    pub less : far n (digit (prev k v) source) source ls < far n (digit k v) v ls

module _ {Edge : ℕ → ℕ → Type 0} {ls : List Loop} {n : ℕ} (O : Order Edge ls n) where
  -- The counts one step before are ones that a walk may have.
  before : (u v : ℕ) (k : Loop → ℕ) → Valid ls k v → ((l : Loop) → Memᴰ l ls → l.header ≡ v → holds l u ≡ true → 2 ≤ k l)
      → Valid ls (prev k v) u
  before u v k ok more l i e = by_bool (holds l v) (λ p. by_bool (eqb l.header v) (head p) (body p)) out
    where
      head : holds l v ≡ true → eqb l.header v ≡ true → (1 ≤ prev k v l) × (prev k v l ≤ l.bound)
      head p q =
          let y = eqb-true l.header v q in
          let z = prev_head k v l p y in
          let s = more l i y e in
          let b = ok l i p in
          (omega arith, omega arith)

      body : holds l v ≡ true → eqb l.header v ≡ false → (1 ≤ prev k v l) × (prev k v l ≤ l.bound)
      body p q = let z = prev_body k v l p (eqb-false l.header v q) in let b = ok l i p in (omega arith, omega arith)

      out : holds l v ≡ false → (1 ≤ prev k v l) × (prev k v l ≤ l.bound)
      out p = let z = prev_out k v l p in let s = O.some_visit l i in (omega arith, omega arith)

module _ {Edge : ℕ → ℕ → Type 0} {ls : List Loop} {n : ℕ} {c : ℕ → ℕ} {e : Loop → ℕ} {D : ℕ → ℕ} {E T : Loop → ℕ}
    (R : Rules Edge ls) (O : Order Edge ls n) (W : Low Edge ls c e D E T n) (v : ℕ) (k : Loop → ℕ) (ok : Valid ls k v) where
  terms : (s u : ℕ) → Edge u v → Since ls s v → (s ≡ suc v → ⊥) → (l : Loop) → Memᴰ l ls → (l.header ≡ v → ⊥)
      → stay s E T k v l + left E T u v l ≤ stay s E T (prev k v) u l
  terms s u d b y l i f = stay_back E T u v l s k f (stays_in R u v l d i f) (leaves_since R O s u v d b y l i)

  ascending : (u : ℕ) → u < v → far n (digit (prev k v) u) u ls < far n (digit k v) v ls
  ascending u x = far_low n (digit (prev k v) u) (digit k v) u v ls x (λ l i. digit_low k u v l x)

  -- To a vertex that is no header.
  pub down_inner : v < n → (v ≡ 0 → ⊥) → NoHeader ls v → Down Edge ls c e D E T n v k
  unfolding leave
  down_inner s z f =
      let p = W.inner v s z f in
      let u = p.0 in
      let d = p.1 in
      let le = p.2 in
      record {
        source = u;
        edge = d;
        fresh = λ l i e g. absurd (f l i (R.enter u v l d i e g));
        valid = before O u v k ok (λ l i q g. absurd (f l i q));
        toll = 0;
        paid = λ h. omega arith;
        gain = λ s b y. omega (arith, sum_ge (stay s E T (prev k v) u) (stay s E T k v) (left E T u v) ls (λ l i. terms s u d b y l i (f l i)));
        less = ascending u (ascends R u v d f);
      }

  -- To the header of the loop a.
  module _ (a : Loop) (j : Memᴰ a ls) (q : a.header ≡ v) where
    sums : (x s u : ℕ) → Edge u v → Since ls s v → (s ≡ suc v → ⊥) → stay s E T k v a + left E T u v a ≤ stay s E T (prev k v) u a + x
        → sum (stay s E T k v) ls + sum (left E T u v) ls ≤ sum (stay s E T (prev k v) u) ls + x
    sums x s u d b y =
        sum_ge_at (stay s E T (prev k v) u) (stay s E T k v) (left E T u v) x R.ascend j
        (λ l i f. terms s u d b y l i (λ z. f (z ∙ sym q)))

    module _ (u : ℕ) (d : Edge u v) where
      -- The first visit of a stay.
      pub down_entry : k a ≡ 1 → holds a u ≡ false → E a ≤ D u + leave E T ls u v + e a → Down Edge ls c e D E T n v k
      unfolding leave
      down_entry o g le =
          record {
            source = u;
            edge = d;
            fresh = λ l i e b. ap k (one_loop R v i j (R.enter u v l d i e b) q) ∙ o;
            valid = before O u v k ok (λ l i p b. holds_not a u (subst (λ (m : Loop). holds m u ≡ true) (one_loop R v i j p q) b) g);
            toll = e a;
            paid = λ h. omega (arith, sum_at (entering e v (u ∷ h)) j, entering_new e v (u ∷ h) a q (visits_out a u h g));
            gain = λ s b y. omega (arith, W.head v a j q, sums (E a) s u d b y (at s (since_below b y)));
            less = ascending u (enters_up R u v a d j q g);
          }
        where
          at : (s : ℕ) → s ≤ v → stay s E T k v a + left E T u v a ≤ stay s E T (prev k v) u a + E a
          at s p =
              let g = held_head R v a j q in
              rw (stay_in s E T k v a (omega arith) g, left_in E T u v a g, o) (omega arith)

      -- A later visit.
      module _ (o : 2 ≤ k a) (g : holds a u ≡ true) where
        inside : holds a v ≡ true
        inside = held_head R v a j q

        later : Valid ls (prev k v) u
        later = before O u v k ok (λ l i p b. subst (λ (m : Loop). 2 ≤ k m) (one_loop R v j i q p) o)

        at_again : (s : ℕ) → s ≤ v → stay s E T k v a + left E T u v a ≤ stay s E T (prev k v) u a + T a
        at_again s p =
            rw (
              stay_in s E T k v a (omega arith) inside,
              left_in E T u v a inside,
              stay_in s E T (prev k v) u a (omega arith) g,
              prev_head k v a inside q,
            ) (turn_less (k a - 1) (k a - 1 - 1) (T a) (E a) (omega arith))

        own : digit (prev k v) u a < digit k v a
        own = omega (arith, digit_in (prev k v) u a g, digit_in k v a inside, prev_head k v a inside q)

        outer : (l : Loop) → Memᴰ l ls → l.header < a.header → digit (prev k v) u l ≤ digit k v l
        outer l i lt = go (O.nested l a i j lt)
          where
            b : (a.header ≤ u) × (u ≤ a.last)
            b = holds_from a u g

            w : a.header ≤ a.last
            w = R.wide a j

            go : (l.last < a.header) ⊎ (a.last ≤ l.last) → digit (prev k v) u l ≤ digit k v l
            go (inl x) =
                let b' = b in
                omega (
                  arith,
                  digit_after (prev k v) u l (behind_range l u (omega arith)) (omega arith),
                  digit_after k v l (behind_range l v (omega arith)) (omega arith),
                )
            go (inr x) =
                let b' = b in
                let w' = w in
                let e = holds_to l v (omega arith) (omega arith) in
                omega (arith, digit_in (prev k v) u l (holds_to l u (omega arith) (omega arith)), digit_in k v l e, prev_le k v l e)

        pub down_again : T a ≤ D u + leave E T ls u v → Down Edge ls c e D E T n v k
        unfolding leave
        down_again le =
            record {
              source = u;
              edge = d;
              fresh = λ l i e b. holds_not a u g (subst (λ (m : Loop). holds m u ≡ false) (one_loop R v i j (R.enter u v l d i e b) q) b);
              valid = later;
              toll = 0;
              paid = λ h. omega arith;
              gain = λ s b y. omega (arith, W.head v a j q, sums (T a) s u d b y (at_again s (since_below b y)));
              less =
                  far_lex n (digit (prev k v) u) (digit k v) u v (O.small u v d)
                  (λ l i. digit_small (prev k v) u l (λ e. (later l i e).1)) R.ascend j outer own;
            }
