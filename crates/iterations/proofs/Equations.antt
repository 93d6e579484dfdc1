-- The numbers that the tables give are those of the equations.
use Prim.Native.Nat.{ℕ, ◌+◌, min}
use mathlib.Core.Path.{◌≡◌, refl, ◌∙◌}
use mathlib.Core.List.{List, [], ◌∷◌, Memᴰ}
use mathlib.Core.Bool.{true, not}
use native.Mathlib.Nat.{add-zero}
use native.Mathlib.Omega.{arith}
use borrow.Author.Tests.{eq-eqb, ne_eqb}
use Rattle.model.specs.declared.Loop.{Loop}
use Rattle.model.specs.Graph.{holds}
use Rattle.model.specs.Walks.{sum}
use Rattle.model.proofs.Cases.{by_bool}
use Rattle.lookup.specs.Lists.{edges_in, loops_in}
use Rattle.greatest.specs.Numbers.{left, leave, starts, ends, best_visit, best_entry, best_turn}
use Rattle.greatest.proofs.Best.{best_local}
use Rattle.chains.specs.Chains.{edge_count}
use Rattle.stays.specs.Tables.{cap, Capped, by_header, by_vertex}
use Rattle.stays.specs.Leaving.{left_of, leaving}
use Rattle.offers.specs.Offers.{brought, best_into, visit_number, entry_number, turn_number}
use Rattle.iterations.specs.Filling.{Kept}

-- Sums of numbers that are the same up to the cap are the same up to the cap.
capped_sums : (f g : Loop → ℕ) (ls : List Loop) → ((k : Loop) → Memᴰ k ls → min cap (f k) ≡ min cap (g k)) → min cap (sum f ls) ≡ min cap (sum g ls)
unfolding sum
capped_sums f g [] same = refl
capped_sums f g (k ∷ ls) same = omega (arith, same k (Memᴰ.head refl), capped_sums f g ls (λ m i. same m (Memᴰ.tail i)))

module _ (l charge enter d e w : List ℕ) {turns : Loop → ℕ} {x : ℕ} (kept : Kept (loops_in l) e w turns x) where
  same_left : (u v : ℕ) (k : Loop) → Memᴰ k (loops_in l) → min cap (left_of w u v k) ≡ min cap (left (by_header e) turns u v k)
  unfolding left_of left
  same_left u v k i =
      by_bool (holds k u)
      (λ p. by_bool (holds k v) (λ q. rw (p, q)) (λ q. rw (p, q) (omega (arith, kept.stays k i))))
      (λ p. rw p)

  same_leaving : (u v : ℕ) → min cap (leaving l w u v) ≡ min cap (leave (by_header e) turns (loops_in l) u v)
  unfolding leaving leave
  same_leaving u v = capped_sums (left_of w u v) (left (by_header e) turns u v) (loops_in l) (same_left u v)

  -- What an edge from u brings to v.
  same_brought : (u v more : ℕ) → brought l d w v more u ≡ min cap (by_vertex d u + leave (by_header e) turns (loops_in l) u v + more)
  unfolding brought
  same_brought u v more = omega (arith, same_leaving u v)

  pub visit_start : (v : ℕ) → v ≡ 0 → visit_number l charge d w v ≡ by_vertex charge v
  unfolding visit_number
  visit_start v z = rw (eq-eqb v 0 z)

  pub visit_number_lem : (v : ℕ) → (v ≡ 0 → ⊥)
      → visit_number l charge d w v
      ≡ best_visit (starts (edges_in l)) (ends (edges_in l)) (edge_count l) (loops_in l) (by_vertex charge) (by_header enter) (by_vertex d) (by_header e) turns cap v
  unfolding visit_number best_into
  visit_number_lem v some =
      rw (ne_eqb v 0 some)
      (best_local (starts (edges_in l)) (ends (edges_in l)) (λ u. true) (brought l d w v (by_vertex charge v)) v
      (λ u. min cap (by_vertex d u + leave (by_header e) turns (loops_in l) u v + by_vertex charge v)) (edge_count l)
      (λ i r h q. same_brought (starts (edges_in l) i) v (by_vertex charge v)))

  module _ (k : Loop) where
    pub entry_start : Capped enter → k.header ≡ 0 → entry_number l enter d w k ≡ min cap (by_header enter k)
    unfolding entry_number by_header
    entry_start enters z = rw (eq-eqb k.header 0 z) (omega (arith, enters.most k.header))

    pub entry_number_lem : (k.header ≡ 0 → ⊥)
        → entry_number l enter d w k
        ≡ best_entry (starts (edges_in l)) (ends (edges_in l)) (edge_count l) (loops_in l) (by_vertex charge) (by_header enter) (by_vertex d) (by_header e) turns cap k
        k.header
    unfolding entry_number best_into
    entry_number_lem some =
        rw (ne_eqb k.header 0 some)
        (best_local (starts (edges_in l)) (ends (edges_in l)) (λ u. not (holds k u)) (brought l d w k.header (by_header enter k)) k.header
        (λ u. min cap (by_vertex d u + leave (by_header e) turns (loops_in l) u k.header + by_header enter k)) (edge_count l)
        (λ i r h q. same_brought (starts (edges_in l) i) k.header (by_header enter k)))

    pub turn_number_lem : turn_number l d w k
        ≡ best_turn (starts (edges_in l)) (ends (edges_in l)) (edge_count l) (loops_in l) (by_vertex charge) (by_header enter) (by_vertex d) (by_header e) turns cap k
        k.header
    unfolding turn_number best_into
    turn_number_lem =
        best_local (starts (edges_in l)) (ends (edges_in l)) (λ u. holds k u) (brought l d w k.header 0) k.header
        (λ u. min cap (by_vertex d u + leave (by_header e) turns (loops_in l) u k.header)) (edge_count l)
        (λ i r h q. same_brought (starts (edges_in l) i) k.header 0 ∙ (rw add-zero))
