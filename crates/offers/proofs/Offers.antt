-- What one edge brings to a vertex, and the greatest of what the edges bring, in numbers that are kept up to the cap.
use Prim.Native.Nat.{ℕ, zero, suc, ◌+◌, ◌≤◌, ◌<◌, min, max}
use mathlib.Core.Path.{◌≡◌, refl, sym, ◌∙◌}
use mathlib.Core.List.{List}
use mathlib.Core.Bool.{Bool, true, false, ◌&&◌, and-false}
use native.Mathlib.Omega.{arith}
use lib.ListN.{get_or}
use lib.Dec.{eqb}
use borrow.Author.Tests.{eq-eqb, eqb-true}
use Rattle.model.specs.Places as places
use Rattle.model.proofs.Cases.{by_cond}
use Rattle.lookup.specs.Lists.{edges_in}
use Rattle.greatest.specs.Numbers.{starts, ends, best}
use Rattle.offers.specs.declared.Origin.{Origin}
use Rattle.stays.specs.Tables.{cap, by_vertex}
use Rattle.stays.specs.Leaving.{leaving}
use Rattle.offers.specs.Offers.{comes, brought, offered, best_into}
use Rattle.chains.specs.Chains.{last_below, edge_count, leads, EdgeChains}
use Rattle.chains.proofs.Chains.{last_within, last_passes, last_skip}

module _ (l d w : List ℕ) (v more : ℕ) (origin : Origin) where
  -- Edge i to v, its start given by a number.
  module _ (i : ℕ) {from : ℕ} (same : ends (edges_in l) i ≡ v) (at_from : from ≡ starts (edges_in l) i) where
    pub offered_not : {answer : Bool} → answer ≡ comes origin from → answer ≡ false → 0 ≡ offered l d w v more origin i
    unfolding offered
    offered_not told is = rw (← at_from, ← told, is, and-false)

    pub offered_brought : {answer : Bool} {left before r : ℕ} → answer ≡ comes origin from → answer ≡ true
        → left ≡ min cap (leaving l w from v) → before ≡ min cap (get_or d from 0 + left) → r ≡ min cap (before + more)
        → r ≡ offered l d w v more origin i
    unfolding offered brought by_vertex
    offered_brought told is p q s = rw (eq-eqb (ends (edges_in l) i) v same, ← at_from, ← told, is) (omega arith)

  best_more : (i : ℕ) → best_into l d w v more origin (suc i) ≡ max (best_into l d w v more origin i) (offered l d w v more origin i)
  unfolding best_into best offered
  best_more i = refl

  -- Edges to other vertices bring nothing, so that only those in the chain count.
  best_elsewhere : (i : ℕ) → leads l v i ≡ false → best_into l d w v more origin (suc i) ≡ best_into l d w v more origin i
  unfolding best_into best leads
  best_elsewhere i other = rw other (omega arith)

  best_last : (m : ℕ) → best_into l d w v more origin m ≡ best_into l d w v more origin (last_below (leads l v) m)
  best_last m = last_skip (leads l v) (best_into l d w v more origin) m (λ i h other. best_elsewhere i other)

  -- The chain of v is followed down to `next`: the greatest so far, and what the edges from there on bring.
  pub record Followed (so_far next : ℕ) : Type 0 where
    pub within : next ≤ edge_count l
    pub to : (i : ℕ) → next ≡ suc i → ends (edges_in l) i ≡ v
    pub rest : max so_far (best_into l d w v more origin next) ≡ best_into l d w v more origin (edge_count l)

  -- The chain goes on at the last edge to v among the first m.
  followed_last : {so_far next m : ℕ} → m ≤ edge_count l → next ≡ last_below (leads l v) m
      → max so_far (best_into l d w v more origin m) ≡ best_into l d w v more origin (edge_count l) → Followed so_far next
  unfolding leads
  followed_last {m = m} inside is rest =
      record {
        within = omega (arith, last_within (leads l v) m);
        to = λ i q. eqb-true (ends (edges_in l) i) v (last_passes (leads l v) m i (sym is ∙ q));
        rest = rw (is, ← best_last m) rest;
      }

  module _ {edges : List ℕ} (chains : EdgeChains l edges) where
    pub followed_none : v < places.most_vertices → Followed 0 (get_or edges v 0)
    followed_none inside = followed_last (omega arith) (chains.last v inside) (omega arith)

    pub followed_more : (i : ℕ) {so_far next offer more_so_far : ℕ} → next ≡ suc i → Followed so_far next → offer ≡ offered l d w v more origin i
        → more_so_far ≡ max so_far offer → Followed more_so_far (get_or edges (places.most_vertices + i) 0)
    followed_more i q f is now =
        let below : i < edge_count l = omega (arith, f.within) in
        followed_last (omega arith) (rw (f.to i q) at (chains.link i below))
        (omega (arith, best_more i, rw q at f.rest))

  pub followed_all : {so_far next : ℕ} → next ≤ 0 → Followed so_far next → so_far ≡ best_into l d w v more origin (edge_count l)
  unfolding best_into best
  followed_all {next = next} over f = let q : next ≡ 0 = omega arith in let r = rw q at f.rest in omega arith

  offered_most : (i : ℕ) → offered l d w v more origin i ≤ cap
  unfolding offered brought
  offered_most i = by_cond (λ (r : ℕ). r ≤ cap) (eqb (ends (edges_in l) i) v && comes origin (starts (edges_in l) i)) (λ q. omega arith) (λ q. omega arith)

  pub best_most : (m : ℕ) → best_into l d w v more origin m ≤ cap
  unfolding best_into best offered
  best_most zero = omega arith
  best_most (suc m) = omega (arith, best_most m, offered_most m)
