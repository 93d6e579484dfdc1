-- Some lawful walk weighs as much as the numbers say.
use Prim.Native.Nat.{ℕ, zero, suc, ◌+◌, ◌≤◌, ◌<◌}
use mathlib.Core.Path.{◌≡◌, refl, sym, subst}
use mathlib.Core.List.{List, [], ◌∷◌, Memᴰ}
use mathlib.Core.Bool.{true, false}
use mathlib.Core.Logic.{◌⊎◌, inl, inr, ⊎_elim}
use native.Mathlib.Omega.{arith}
use lib.Dec.{eqb}
use borrow.Author.Tests.{eqb-true, eqb-false}
use Rattle.model.specs.declared.Loop.{Loop}
use Rattle.model.specs.Graph.{holds}
use Rattle.model.specs.Walks.{Walk, start, step, visits, Within, sum, entering, weights}
use Rattle.model.proofs.Cases.{by_bool}
use Rattle.greatest.specs.Numbers.{leave, NoHeader}
use Rattle.greatest.proofs.Loops.{holds_from, holds_not, header?}
use Rattle.greatest.proofs.Sums.{sum_none, sum_up}
use Rattle.greatest.proofs.Stays.{visits_out, visits_head, visits_body}
use Rattle.greatest.proofs.Weights.{entering_new, tally, tally_new, tally_on, tally_all, Since, since_below}
use Rattle.greatest.proofs.Rules.{Rules, Order, held_head, one_loop, since_back}
use Rattle.greatest.proofs.Levels.{Low}
use Rattle.greatest.proofs.Counts.{prev, prev_body, prev_head, digit, far}
use Rattle.greatest.proofs.Terms.{stay, stay_out, stay_in, stay_behind}
use Rattle.greatest.proofs.Back.{Valid, Down, down_inner, down_entry, down_again}

-- A lawful history that ends at v, with k visits of each header whose range holds v.
module _ (Edge : ℕ → ℕ → Type 0) (ls : List Loop) (c : ℕ → ℕ) (e : Loop → ℕ) (D : ℕ → ℕ) (E T : Loop → ℕ) where
  pub record Attain (v : ℕ) (k : Loop → ℕ) : Type 0 where
    pub past : List ℕ
    pub walk : Walk Edge v past
    pub within : Within ls (v ∷ past)
    pub counts : (l : Loop) → Memᴰ l ls → holds l v ≡ true → visits l (v ∷ past) ≡ k l
    pub enough : (s : ℕ) → Since ls s v → D v + sum (stay s E T k v) ls ≤ tally ls c e s (v ∷ past)

module _ {Edge : ℕ → ℕ → Type 0} {ls : List Loop} {n : ℕ} {c : ℕ → ℕ} {e : Loop → ℕ} {D : ℕ → ℕ} {E T : Loop → ℕ}
    (R : Rules Edge ls) (O : Order Edge ls n) (W : Low Edge ls c e D E T n) where
  -- Where the tally begins anew.
  anew : (s v : ℕ) (k : Loop → ℕ) (h : List ℕ) → Since ls s v → s ≡ suc v → D v + sum (stay s E T k v) ls ≤ tally ls c e s (v ∷ h)
  anew s v k h (inl z) p = absurd (omega arith)
  anew s v k h (inr (l, i, g, q)) p =
      omega (
        arith,
        W.head v l i (omega arith),
        tally_new ls c e s v h p,
        sum_none (stay s E T k v) ls (λ m j. omega (arith, stay_behind s E T k v m p)),
      )

  module _ (v : ℕ) (k : Loop → ℕ) (ok : Valid ls k v) where
    -- The visit to v keeps the bounds.
    kept : (h : List ℕ) → ((l : Loop) → Memᴰ l ls → holds l v ≡ true → visits l (v ∷ h) ≡ k l)
        → (l : Loop) → Memᴰ l ls → l.header ≡ v → visits l (v ∷ h) ≤ l.bound
    kept h count l i q = let g = held_head R v l i q in let b = ok l i g in omega (arith, count l i g)

    -- One step of the walk, where the counts allow it.
    module _ (S : Down Edge ls c e D E T n v k) (A : Attain Edge ls c e D E T S.source (prev k v)) where
      abbrev before : List ℕ
      before = S.source ∷ A.past

      count : (l : Loop) → Memᴰ l ls → holds l v ≡ true → visits l (v ∷ before) ≡ k l
      count l i e =
          by_bool (holds l S.source)
          (λ x. by_bool (eqb l.header v) (λ q. head x (eqb-true l.header v q)) (λ q. body x (eqb-false l.header v q)))
          entry
        where
          head : holds l S.source ≡ true → l.header ≡ v → visits l (v ∷ before) ≡ k l
          head x y = let b = ok l i e in omega (arith, visits_head l v before e y, A.counts l i x, prev_head k v l e y)

          body : holds l S.source ≡ true → (l.header ≡ v → ⊥) → visits l (v ∷ before) ≡ k l
          body x y = omega (arith, visits_body l v before e y, A.counts l i x, prev_body k v l e y)

          entry : holds l S.source ≡ false → visits l (v ∷ before) ≡ k l
          entry x =
              let y = R.enter S.source v l S.edge i e x in
              omega (arith, visits_head l v before e y, visits_out l S.source A.past x, S.fresh l i e x)

      reach : (s : ℕ) → Since ls s v → D v + sum (stay s E T k v) ls ≤ tally ls c e s (v ∷ before)
      reach s b =
          by_bool (eqb s (suc v))
          (λ z. anew s v k before b (eqb-true s (suc v) z))
          (λ z.
          let y = eqb-false s (suc v) z in
          omega (arith, tally_on ls c e s v before y, S.paid A.past, S.gain s b y, A.enough s (since_back R S.edge b y)))

      extend : Attain Edge ls c e D E T v k
      unfolding Within
      extend = record { past = before; walk = step A.walk S.edge; within = (kept before count, A.within); counts = count; enough = reach }

    -- The walk that is one vertex long.
    module _ (z : v ≡ 0) (q : D v ≤ c v) (f : (l : Loop) → Memᴰ l ls → l.header ≡ v → (k l ≡ 1) × (E l ≤ e l)) where
      headed : (l : Loop) → holds l v ≡ true → l.header ≡ v
      headed l e = let x = holds_from l v e in omega arith

      alone_count : (l : Loop) → Memᴰ l ls → holds l v ≡ true → visits l (v ∷ []) ≡ k l
      unfolding visits
      alone_count l i e = omega (arith, visits_head l v [] e (headed l e), (f l i (headed l e)).0)

      alone_terms : (s : ℕ) → s ≤ v → (l : Loop) → Memᴰ l ls → stay s E T k v l ≤ entering e v [] l
      unfolding visits
      alone_terms s p l i =
          by_bool (holds l v)
          (λ g.
          let w = headed l g in
          let y = f l i w in
          rw (stay_in s E T k v l (omega arith) g, y.0, entering_new e v [] l w refl) (omega arith))
          (λ g. omega (arith, stay_out s E T k v l g))

      alone_reach : (s : ℕ) → Since ls s v → D v + sum (stay s E T k v) ls ≤ tally ls c e s (v ∷ [])
      unfolding tally
      alone_reach s b =
          by_bool (eqb s (suc v))
          (λ y. anew s v k [] b (eqb-true s (suc v) y))
          (λ y.
          let x = eqb-false s (suc v) y in
          omega (arith, tally_on ls c e s v [] x, sum_up (stay s E T k v) (entering e v []) ls (alone_terms s (since_below b x))))

      alone : Attain Edge ls c e D E T v k
      unfolding Within
      alone = record {
        past = [];
        walk = subst (λ (x : ℕ). Walk Edge x []) (sym z) start;
        within = (kept [] alone_count, tt);
        counts = alone_count;
        enough = alone_reach;
      }

    -- The walk begins at v, or there is a step back.
    choose : v < n → Attain Edge ls c e D E T v k ⊎ Down Edge ls c e D E T n v k
    choose s = go (header? v ls)
      where
        first : (a : Loop) → Memᴰ a ls → a.header ≡ v → k a ≡ 1
            → ((v ≡ 0) × (E a ≤ e a)) ⊎ ((u : ℕ) × Edge u v × (holds a u ≡ false) × (E a ≤ D u + leave E T ls u v + e a))
            → Attain Edge ls c e D E T v k ⊎ Down Edge ls c e D E T n v k
        first a j q o (inl (z, le)) =
            inl (alone z (W.head v a j q) (λ l i p. subst (λ (m : Loop). (k m ≡ 1) × (E m ≤ e m)) (one_loop R v j i q p) (o, le)))
        first a j q o (inr (u, d, g, le)) = inr (down_entry R O W v k ok a j q u d o g le)

        later : (a : Loop) → Memᴰ a ls → a.header ≡ v → (k a ≡ 1 → ⊥) → Attain Edge ls c e D E T v k ⊎ Down Edge ls c e D E T n v k
        later a j q o =
            let p = W.again v a j q in
            let b = ok a j (held_head R v a j q) in
            inr (down_again R O W v k ok a j q p.0 p.1 (omega (arith, o)) p.2 p.3)

        plain : NoHeader ls v → Attain Edge ls c e D E T v k ⊎ Down Edge ls c e D E T n v k
        plain f =
            by_bool (eqb v 0)
            (λ z.
            let y = eqb-true v 0 z in
            inl (alone y (subst (λ (x : ℕ). D x ≤ c x) (sym y) W.first) (λ l i p. absurd (f l i p))))
            (λ z. inr (down_inner R O W v k ok s (eqb-false v 0 z) f))

        go : ((l : Loop) × Memᴰ l ls × (l.header ≡ v)) ⊎ NoHeader ls v → Attain Edge ls c e D E T v k ⊎ Down Edge ls c e D E T n v k
        go (inl (a, j, q)) =
            by_bool (eqb (k a) 1) (λ o. first a j q (eqb-true (k a) 1 o) (W.entry v a j q)) (λ o. later a j q (eqb-false (k a) 1 o))
        go (inr f) = plain f

  attain_far : (f v : ℕ) (k : Loop → ℕ) → v < n → Valid ls k v → far n (digit k v) v ls < f → Attain Edge ls c e D E T v k
  attain_far zero v k s ok m = absurd (omega arith)
  attain_far (suc f) v k s ok m =
      ⊎_elim
      (λ (a : Attain Edge ls c e D E T v k). a)
      (λ (y : Down Edge ls c e D E T n v k).
      extend v k ok y (attain_far f y.source (prev k v) (O.small y.source v y.edge) y.valid (omega (arith, y.less))))
      (choose v k ok s)

  pub attain : (v : ℕ) (k : Loop → ℕ) → v < n → Valid ls k v → Attain Edge ls c e D E T v k
  attain v k s ok = attain_far (suc (far n (digit k v) v ls)) v k s ok (omega arith)

  -- At a vertex outside all ranges.
  pub attained : (v : ℕ) → v < n → ((l : Loop) → Memᴰ l ls → holds l v ≡ false)
      → (h : List ℕ) × Walk Edge v h × Within ls (v ∷ h) × (D v ≤ weights ls c e (v ∷ h))
  attained v s f =
      let A = attain v (λ l. 1) s (λ l i e. holds_not l v e (f l i)) in
      (A.past, A.walk, A.within, omega (arith, A.enough 0 (inl refl), tally_all ls c e (v ∷ A.past)))
