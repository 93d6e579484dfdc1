-- The equations of the lower vertices stay true while higher ones are filled, and all of them make the numbers filled.
use Prim.Native.Nat.{ℕ, ◌+◌, ◌≤◌, ◌<◌, min}
use mathlib.Core.Path.{◌≡◌, sym, subst, ◌∙◌}
use mathlib.Core.List.{List, Memᴰ}
use mathlib.Core.Bool.{true, false, not}
use native.Mathlib.Omega.{arith}
use borrow.Author.Tests.{not-true}
use Rattle.model.specs.declared.Loop.{Loop}
use Rattle.model.specs.Graph.{holds}
use Rattle.model.proofs.Cases.{by_bool}
use Rattle.greatest.specs.Numbers.{left, leave, Solved, SolvedUpto}
use Rattle.greatest.proofs.Loops.{holds_from, past_range}
use Rattle.greatest.proofs.Sums.{sum_same}
use Rattle.greatest.proofs.Rules.{Rules, Order, Linked, enters_up, ascends, leaves_back}
use Rattle.greatest.proofs.Best.{best_local}
use Rattle.greatest.proofs.Equations.{Listing, arc}

-- `leave` reads only the loops that hold u and not v.
module _ (E T F U : Loop → ℕ) (ls : List Loop) (u v : ℕ) where
  left_local : (l : Loop) → (holds l u ≡ true → holds l v ≡ false → (E l ≡ F l) × (T l ≡ U l)) → left E T u v l ≡ left F U u v l
  unfolding left
  left_local l h =
      by_bool (holds l u)
      (λ x. by_bool (holds l v) (λ y. rw (x, y)) (λ y. let z = h x y in rw (x, y, z.0, z.1)))
      (λ x. rw x)

  pub leave_local : ((l : Loop) → Memᴰ l ls → holds l u ≡ true → holds l v ≡ false → (E l ≡ F l) × (T l ≡ U l))
      → leave E T ls u v ≡ leave F U ls u v
  unfolding leave
  leave_local h = sum_same (left E T u v) (left F U u v) ls (λ l i. left_local l (h l i))

-- Those are closed before v, if the edge ascends.
pub leaves_closed : (u v : ℕ) (l : Loop) → u < v → holds l u ≡ true → holds l v ≡ false → l.last < v
leaves_closed u v l s x y = let z = holds_from l u x in past_range l v y (omega arith)

-- All vertices and all loops.
pub complete : {Edge : ℕ → ℕ → Type 0} {a b : ℕ → ℕ} {m n : ℕ} {ls : List Loop} {c : ℕ → ℕ} {e : Loop → ℕ} {D : ℕ → ℕ} {E T : Loop → ℕ} {cap : ℕ}
    {done : Loop → Type 0} → Linked Edge ls n → 0 < n → ((l : Loop) → Memᴰ l ls → done l)
    → SolvedUpto a b m ls c e D E T cap n done → Solved a b m ls c e D E T cap n
complete L p q U = record {
  first = U.first p;
  head = λ v l i e. let s = L.inside l i in U.head v l i e (omega arith);
  inner = U.inner;
  begin = λ l i e. U.begin l i e p;
  entry = λ v l i e z. let s = L.inside l i in U.entry v l i e z (omega arith);
  again = λ v l i e. U.again v l i e (q l i);
}

module _ {Edge : ℕ → ℕ → Type 0} {a b : ℕ → ℕ} {m n : ℕ} {ls : List Loop} (G : Listing a b m Edge) (R : Rules Edge ls) (O : Order Edge ls n)
    (c : ℕ → ℕ) (e : Loop → ℕ) (cap : ℕ) where
  -- What is filled later is not read: the numbers D' E' T' agree with D E T on what is filled so far. A loop that is done lies below x, one that
  -- ends before the vertex below x is done, and so is one inside a loop that is done.
  module _ (D D' : ℕ → ℕ) (E E' T T' : Loop → ℕ) (x : ℕ) (done : Loop → Type 0)
      (same_d : (u : ℕ) → u < x → D u ≡ D' u)
      (same_e : (l : Loop) → Memᴰ l ls → l.header < x → E l ≡ E' l)
      (same_t : (l : Loop) → Memᴰ l ls → done l → T l ≡ T' l)
      (below : (l : Loop) → Memᴰ l ls → done l → l.last < x)
      (closed : (l : Loop) → Memᴰ l ls → l.last + 1 < x → done l)
      (inward : (k l : Loop) → Memᴰ k ls → Memᴰ l ls → done k → k.header < l.header → l.last ≤ k.last → done l) where
    leave_up : (u v : ℕ) → u < v → v < x → leave E T ls u v ≡ leave E' T' ls u v
    leave_up u v s t =
        leave_local E T E' T' ls u v (λ l i p q.
        let z = leaves_closed u v l s p q in
        let w = R.wide l i in
        (same_e l i (omega arith), same_t l i (closed l i (omega arith))))

    leave_back : (u v : ℕ) (k : Loop) → Memᴰ k ls → k.header ≡ v → holds k u ≡ true → done k → leave E T ls u v ≡ leave E' T' ls u v
    leave_back u v k j q g s =
        leave_local E T E' T' ls u v (λ l i p r.
        let z = leaves_back R O u k l j i g p (subst (λ (y : ℕ). holds l y ≡ false) (sym q) r) in
        let w = R.wide l i in
        let t = below k j s in
        (same_e l i (omega arith), same_t l i (inward k l j i s z.0 z.1)))

    pub frame : SolvedUpto a b m ls c e D E T cap x done → SolvedUpto a b m ls c e D' E' T' cap x done
    frame U = record {
      first = λ p. sym (same_d 0 p) ∙ U.first p;
      head = λ v l i q s. sym (same_d v s) ∙ U.head v l i q s;
      inner = λ v s z f.
          sym (same_d v s) ∙ U.inner v s z f
          ∙ best_local a b (λ u. true) (λ u. min cap (D u + leave E T ls u v + c v)) v (λ u. min cap (D' u + leave E' T' ls u v + c v)) m
          (λ i r h q. let lt = ascends R (a i) v (arc G v i r h) f in rw (same_d (a i) (omega arith), leave_up (a i) v lt s));
      begin = λ l j q s. sym (same_e l j (omega arith)) ∙ U.begin l j q s;
      entry = λ v l j q z s.
          sym (same_e l j (omega arith)) ∙ U.entry v l j q z s
          ∙ best_local a b (λ u. not (holds l u)) (λ u. min cap (D u + leave E T ls u v + e l)) v (λ u. min cap (D' u + leave E' T' ls u v + e l)) m
          (λ i r h g.
          let lt = enters_up R (a i) v l (arc G v i r h) j q (not-true (holds l (a i)) g) in
          rw (same_d (a i) (omega arith), leave_up (a i) v lt s));
      again = λ v l j q s.
          let t = below l j s in
          sym (same_t l j s) ∙ U.again v l j q s
          ∙ best_local a b (λ u. holds l u) (λ u. min cap (D u + leave E T ls u v)) v (λ u. min cap (D' u + leave E' T' ls u v)) m
          (λ i r h g. let y = holds_from l (a i) g in rw (same_d (a i) (omega arith), leave_back (a i) v l j q g s));
    }
