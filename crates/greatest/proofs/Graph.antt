-- A graph that passes rules 6 to 9, with fields in their ranges, is as the laws of the longest walk ask.
use Prim.Native.Nat.{ℕ, zero, suc, ◌≤◌, ◌<◌}
use mathlib.Core.Path.{◌≡◌, refl, ap}
use mathlib.Core.List.{List, [], ◌∷◌, Memᴰ}
use mathlib.Core.Logic.{◌⊎◌}
use native.Mathlib.Omega.{arith}
use lib.ListN.{length}
use lib.Dec.{eqb}
use borrow.Author.Tests.{eqb-true, eqb-false}
use Rattle.model.specs.declared.Edge.{Edge}
use Rattle.model.specs.declared.Loop.{Loop}
use Rattle.model.specs.Zero.{zero_edge, zero_loop}
use Rattle.model.specs.Graph.{loop}
use Rattle.model.proofs.Cases.{by_bool, by_order}
use Rattle.model.proofs.Lists.{mem-get_or, index_of}
use Rattle.graph.proofs.Facts.{GraphFacts}
use Rattle.greatest.specs.Numbers.{starts, ends}
use Rattle.greatest.proofs.Loops.{Ascend, same_header}
use Rattle.greatest.proofs.Rules.{Rules, Order, Linked}
use Rattle.greatest.proofs.Equations.{Listing}

-- What the ranges of the fields and the order of the loops say of a graph.
pub record Ranges (n : ℕ) (es : List Edge) (ls : List Loop) : Type 0 where
  pub some_vertex : 1 ≤ n
  pub from : (e : Edge) → Memᴰ e es → e.from < n
  pub to : (e : Edge) → Memᴰ e es → e.to < n
  pub header : (l : Loop) → Memᴰ l ls → l.header ≤ l.last
  pub last : (l : Loop) → Memᴰ l ls → l.last < n
  pub bound : (l : Loop) → Memᴰ l ls → 1 ≤ l.bound
  pub ascend : Ascend ls

-- There is an edge from u to v in the list.
abbrev pub EdgeIn : List Edge → ℕ → ℕ → Type 0
EdgeIn es u v = Memᴰ (record { from = u; to = v }) es

edge_in : {es : List Edge} (e : Edge) {u v : ℕ} → Memᴰ e es → e.from ≡ u → e.to ≡ v → EdgeIn es u v
edge_in e m p q = rw (← p, ← q) m

pub listing : (es : List Edge) → Listing (starts es) (ends es) (length es) (EdgeIn es)
listing es = record {
  at = λ i h. mem-get_or es i zero_edge h;
  place = λ u v d.
      let (i, h, e) = index_of zero_edge d in
      (i, h, ap (λ (x : Edge). x.from) e, ap (λ (x : Edge). x.to) e);
}

-- Each header is below the next loop's.
abbrev pub Next : List Loop → Type 0
Next ls = (i : ℕ) → suc i < length ls → (loop ls i).header < (loop ls (suc i)).header

first_below : (l : Loop) (ls : List Loop) → Next (l ∷ ls) → (m : Loop) → Memᴰ m ls → l.header < m.header
first_below l (x ∷ ls) s m (Memᴰ.head e) = omega (arith, s 0 (omega arith), same_header e)
first_below l (x ∷ ls) s m (Memᴰ.tail i) = omega (arith, s 0 (omega arith), first_below x ls (λ j h. s (suc j) (omega arith)) m i)
first_below l [] s m x'' = elim x'' [ ]

pub ascend_by_next : (ls : List Loop) → Next ls → Ascend ls
ascend_by_next [] s = tt
ascend_by_next (l ∷ ls) s = (first_below l ls s, ascend_by_next ls (λ j h. s (suc j) (omega arith)))

-- The order of headers is the order of places.
pub ascend_at : (ls : List Loop) → Ascend ls → (i j : ℕ) → i < j → j < length ls → (loop ls i).header < (loop ls j).header
ascend_at [] s i j p q = absurd (omega arith)
ascend_at (l ∷ ls) s i zero p q = absurd (omega arith)
ascend_at (l ∷ ls) s zero (suc j) p q = s.0 (loop ls j) (mem-get_or ls j zero_loop (omega arith))
ascend_at (l ∷ ls) s (suc i) (suc j) p q = ascend_at ls s.1 i j (omega arith) (omega arith)

place_below : (ls : List Loop) → Ascend ls → (i j : ℕ) → i < length ls → (loop ls i).header < (loop ls j).header → i < j
place_below ls s i j p q =
    by_order i j (λ h. h) (λ h. by_bool (eqb j i)
    (λ e. let z : (loop ls j).header ≡ (loop ls i).header = ap (λ (k : ℕ). (loop ls k).header) (eqb-true j i e) in absurd (omega arith))
    (λ e. absurd (omega (arith, ascend_at ls s j i (omega (arith, eqb-false j i e)) p))))

module _ {n : ℕ} {es : List Edge} {ls : List Loop} (G : GraphFacts n es ls) (B : Ranges n es ls) where
  pub rules : Rules (EdgeIn es) ls
  rules = record {
    ascend = B.ascend;
    wide = B.header;
    enter = λ u v l d i. G.enter (record { from = u; to = v }) l d i;
    back = λ u v d. G.back (record { from = u; to = v }) d;
  }

  nested : (l m : Loop) → Memᴰ l ls → Memᴰ m ls → l.header < m.header → (l.last < m.header) ⊎ (m.last ≤ l.last)
  nested l m a b s =
      let (i, p, e) = index_of zero_loop a in
      let (j, q, h) = index_of zero_loop b in
      let t : (loop ls i).header < (loop ls j).header = rw (e, h) s in
      rw (e, h) at (G.nested i j (place_below ls B.ascend i j p t) q)

  pub order : Order (EdgeIn es) ls n
  order = record { small = λ u v d. B.from (record { from = u; to = v }) d; some_visit = B.bound; nested = nested }

  pub linked : Linked (EdgeIn es) ls n
  linked = record {
    ends = λ u v d. B.to (record { from = u; to = v }) d;
    inside = λ l i. omega (arith, B.header l i, B.last l i);
    lower = λ v s z.
        let (e, d, p, q) = G.entered v (omega (arith, z)) s in
        (e.from, edge_in e d refl q, p);
    round = λ l i.
        let (e, d, p, q) = G.returns l i in
        (e.from, edge_in e d refl q, p);
  }
