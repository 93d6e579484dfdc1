-- One more vertex, entry or iteration is filled: its equation joins the others, which stay true.
use Prim.Native.Nat.{ℕ, ◌+◌, ◌≤◌, ◌<◌, min}
use mathlib.Core.Path.{◌≡◌, refl, sym, ap, subst, ◌∙◌}
use mathlib.Core.List.{List, Memᴰ}
use mathlib.Core.Bool.{true, false, not}
use mathlib.Core.Logic.{◌⊎◌, inl, inr}
use native.Mathlib.Omega.{arith}
use lib.Dec.{eqb}
use borrow.Author.Tests.{eqb-true, eqb-false, not-true}
use Rattle.model.specs.declared.Loop.{Loop}
use Rattle.model.specs.Graph.{holds}
use Rattle.model.proofs.Cases.{by_bool, by_order}
use Rattle.greatest.specs.Numbers.{leave, NoHeader, best_visit, best_entry, best_turn, SolvedUpto}
use Rattle.greatest.proofs.Rules.{Rules, Order, one_loop, ascends, enters_up, leaves_back}
use Rattle.greatest.proofs.Best.{best_local}
use Rattle.greatest.proofs.Equations.{Listing, arc}
use Rattle.greatest.proofs.Filling.{leave_local, leaves_closed, frame}
use Rattle.iterations.specs.Filling.{Before, Since, After}

-- Below v + 1 is below v, or v.
by_last : {P : Type 0} (w v : ℕ) → w < v + 1 → (w < v → P) → (w ≡ v → P) → P
by_last w v h f g = by_order w v f (λ p. g (omega arith))

-- Fewer loops are asked for.
pub fewer : {a b : ℕ → ℕ} {m : ℕ} {ls : List Loop} {c : ℕ → ℕ} {e : Loop → ℕ} {D : ℕ → ℕ} {E T : Loop → ℕ} {cap x : ℕ} {done done' : Loop → Type 0}
    → ((k : Loop) → Memᴰ k ls → done' k → done k) → SolvedUpto a b m ls c e D E T cap x done → SolvedUpto a b m ls c e D E T cap x done'
fewer less U = record {
  first = U.first;
  head = U.head;
  inner = U.inner;
  begin = U.begin;
  entry = U.entry;
  again = λ v k i q s. U.again v k i q (less k i s);
}

module _ {Edge : ℕ → ℕ → Type 0} {a b : ℕ → ℕ} {m n : ℕ} {ls : List Loop} (G : Listing a b m Edge) (R : Rules Edge ls) (O : Order Edge ls n)
    (c : ℕ → ℕ) (e : Loop → ℕ) (cap : ℕ) where
  -- Where only what is at v or later changes.
  module _ (v : ℕ) (D D' : ℕ → ℕ) (E E' T : Loop → ℕ) (same_d : (u : ℕ) → u < v → D u ≡ D' u)
      (same_e : (k : Loop) → Memᴰ k ls → k.header < v → E k ≡ E' k) (U : SolvedUpto a b m ls c e D E T cap v (Before v)) where
    framed : SolvedUpto a b m ls c e D' E' T cap v (Before v)
    framed =
        frame G R O c e cap D D' E E' T T v (Before v) same_d same_e (λ k i s. refl) (λ k i s. s) (λ k i s. omega arith)
        (λ k j i p s q r. omega arith) U

    -- What an edge from below brings to v is as before.
    same_from : (u : ℕ) → u < v → (D u ≡ D' u) × (leave E T ls u v ≡ leave E' T ls u v)
    same_from u s = (
      same_d u s,
      leave_local E T E' T ls u v (λ k i p q. let z = leaves_closed u v k s p q in let w = R.wide k i in (same_e k i (omega arith), refl)),
    )

    -- The next vertex is no header.
    pub visited : NoHeader ls v → (v ≡ 0 → D' v ≡ c v) → ((v ≡ 0 → ⊥) → D' v ≡ best_visit a b m ls c e D E T cap v)
        → SolvedUpto a b m ls c e D' E' T cap (v + 1) (Before v)
    visited plain start later = record {
      first = λ s. by_last 0 v s framed.first (λ z. subst (λ (w : ℕ). D' w ≡ c w) (sym z) (start (sym z)));
      head = λ w k i q s. by_last w v s (framed.head w k i q) (λ z. absurd (plain k i (q ∙ z)));
      inner = λ w s z f. by_last w v s (λ s. framed.inner w s z f) (λ y. new w y z);
      begin = λ k i q s. by_last 0 v s (framed.begin k i q) (λ z. absurd (plain k i (q ∙ z)));
      entry = λ w k i q z s. by_last w v s (framed.entry w k i q z) (λ y. absurd (plain k i (q ∙ y)));
      again = framed.again;
    }
      where
        same : best_visit a b m ls c e D E T cap v ≡ best_visit a b m ls c e D' E' T cap v
        same =
            best_local a b (λ u. true) (λ u. min cap (D u + leave E T ls u v + c v)) v (λ u. min cap (D' u + leave E' T ls u v + c v)) m
            (λ i r h q. let p = same_from (a i) (ascends R (a i) v (arc G v i r h) plain) in rw (p.0, p.1))

        new : (w : ℕ) → w ≡ v → (w ≡ 0 → ⊥) → D' w ≡ best_visit a b m ls c e D' E' T cap w
        new w y z = rw y (later (λ q. z (y ∙ q)) ∙ same)

    -- The next vertex is the header of k.
    module _ (k : Loop) (j : Memᴰ k ls) (q : k.header ≡ v) where
      pub entered : D' v ≡ c v → (v ≡ 0 → E' k ≡ min cap (e k)) → ((v ≡ 0 → ⊥) → E' k ≡ best_entry a b m ls c e D E T cap k v)
          → SolvedUpto a b m ls c e D' E' T cap (v + 1) (Before v)
      entered own start later = record {
        first = λ s. by_last 0 v s framed.first (λ z. subst (λ (w : ℕ). D' w ≡ c w) (sym z) own);
        head = λ w x i p s. by_last w v s (framed.head w x i p) (λ y. rw y own);
        inner = λ w s z f. by_last w v s (λ s. framed.inner w s z f) (λ y. absurd (f k j (q ∙ sym y)));
        begin = λ x i p s. by_last 0 v s (framed.begin x i p) (λ z. rw (one_loop R 0 i j p (q ∙ sym z)) (start (sym z)));
        entry = λ w x i p z s. by_last w v s (framed.entry w x i p z) (λ y. new w x i p z y);
        again = framed.again;
      }
        where
          same : best_entry a b m ls c e D E T cap k v ≡ best_entry a b m ls c e D' E' T cap k v
          same =
              best_local a b (λ u. not (holds k u)) (λ u. min cap (D u + leave E T ls u v + e k)) v (λ u. min cap (D' u + leave E' T ls u v + e k)) m
              (λ i r h g.
              let p = same_from (a i) (enters_up R (a i) v k (arc G v i r h) j q (not-true (holds k (a i)) g)) in
              rw (p.0, p.1))

          new : (w : ℕ) (x : Loop) → Memᴰ x ls → x.header ≡ w → (w ≡ 0 → ⊥) → w ≡ v → E' x ≡ best_entry a b m ls c e D' E' T cap x w
          new w x i p z y = rw (y, one_loop R v i j (p ∙ y) q) (later (λ s. z (y ∙ s)) ∙ same)

  -- The range of k is filled, and its iteration is next.
  module _ (k : Loop) (j : Memᴰ k ls) (D : ℕ → ℕ) (E T T' : Loop → ℕ)
      (same_t : (x : Loop) → Memᴰ x ls → (x.header ≡ k.header → ⊥) → T x ≡ T' x)
      (U : SolvedUpto a b m ls c e D E T cap (k.last + 1) (Since (k.header + 1) (k.last + 1))) where
    -- A loop that is done is before k or strictly inside; one that ends before the range's last vertex is done; so is one inside a loop that is done.
    other : (x : Loop) → Memᴰ x ls → Since (k.header + 1) (k.last + 1) x → x.header ≡ k.header → ⊥
    other x i (inl s) q = let w = R.wide x i in omega arith
    other x i (inr s) q = omega arith

    below : (x : Loop) → Memᴰ x ls → Since (k.header + 1) (k.last + 1) x → x.last < k.last + 1
    below x i (inl s) = let w = R.wide k j in omega arith
    below x i (inr s) = s.1

    closed : (x : Loop) → Memᴰ x ls → x.last + 1 < k.last + 1 → Since (k.header + 1) (k.last + 1) x
    closed x i s =
        by_order k.header x.header (λ p. inr (omega arith, omega arith))
        (λ p. by_order x.last k.header (λ r. inl (omega arith)) (λ r. by_bool (eqb x.header k.header) (same s) (around p r s)))
      where
        same : x.last + 1 < k.last + 1 → eqb x.header k.header ≡ true → Since (k.header + 1) (k.last + 1) x
        same s z = absurd (omega (arith, ap (λ (y : Loop). y.last) (one_loop R k.header i j (eqb-true x.header k.header z) refl)))

        around : x.header ≤ k.header → k.header ≤ x.last → x.last + 1 < k.last + 1 → eqb x.header k.header ≡ false
            → Since (k.header + 1) (k.last + 1) x
        around p r s z = go (O.nested x k i j (omega (arith, eqb-false x.header k.header z)))
          where
            go : (x.last < k.header) ⊎ (k.last ≤ x.last) → Since (k.header + 1) (k.last + 1) x
            go (inl y) = absurd (omega arith)
            go (inr y) = absurd (omega arith)

    inward : (x y : Loop) → Memᴰ x ls → Memᴰ y ls → Since (k.header + 1) (k.last + 1) x → x.header < y.header → y.last ≤ x.last
        → Since (k.header + 1) (k.last + 1) y
    inward x y i h (inl s) p q = inl (omega arith)
    inward x y i h (inr s) p q = inr (omega arith, omega arith)

    framed_turn : SolvedUpto a b m ls c e D E T' cap (k.last + 1) (Since (k.header + 1) (k.last + 1))
    framed_turn =
        frame G R O c e cap D D E E T T' (k.last + 1) (Since (k.header + 1) (k.last + 1)) (λ u s. refl) (λ x i s. refl)
        (λ x i s. same_t x i (other x i s)) below closed inward U

    pub turned : T' k ≡ best_turn a b m ls c e D E T cap k k.header → SolvedUpto a b m ls c e D E T' cap (k.last + 1) (After k.header k.last)
    turned is = record {
      first = framed_turn.first;
      head = framed_turn.head;
      inner = framed_turn.inner;
      begin = framed_turn.begin;
      entry = framed_turn.entry;
      again = again;
    }
      where
        same : best_turn a b m ls c e D E T cap k k.header ≡ best_turn a b m ls c e D E T' cap k k.header
        same =
            best_local a b (λ u. holds k u) (λ u. min cap (D u + leave E T ls u k.header)) k.header
            (λ u. min cap (D u + leave E T' ls u k.header)) m
            (λ i r h g.
            rw (leave_local E T E T' ls (a i) k.header (λ x y p s.
            let z = leaves_back R O (a i) k x j y g p s in
            (refl, same_t x y (λ w. omega arith)))))

        again : (v : ℕ) (x : Loop) → Memᴰ x ls → x.header ≡ v → After k.header k.last x → T' x ≡ best_turn a b m ls c e D E T' cap x v
        again v x i q (inl s) = framed_turn.again v x i q (inl (omega arith))
        again v x i q (inr s) =
            by_order k.header x.header
            (λ p. framed_turn.again v x i q (inr (omega arith, omega arith)))
            (λ p. rw (sym q ∙ z p, one_loop R k.header i j (z p) refl) (is ∙ same))
          where
            z : x.header ≤ k.header → x.header ≡ k.header
            z p = omega arith
