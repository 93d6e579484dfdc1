-- The first edge from u that leads to the number asked for leads to the lowest such vertex, since the edges from u ascend by their ends.
use Prim.Native.Nat.{ℕ, zero, suc, ◌+◌, ◌-◌, ◌*◌, ◌≤◌, ◌<◌}
use mathlib.Core.Path.{◌≡◌, ap, subst}
use mathlib.Core.List.{List}
use mathlib.Core.Bool.{true}
use native.Mathlib.Omega.{arith}
use lib.ListN.{get_or}
use borrow.Author.Tests.{ltb-true, eq-eqb, le-ltb}
use Rattle.model.specs.declared.Edge.{Edge}
use Rattle.model.specs.Zero.{zero_edge}
use Rattle.model.specs.Numbers.{problem_of}
use Rattle.model.specs.File.{edge_before}
use Rattle.model.specs.Walks.{EdgeOf}
use Rattle.model.proofs.Cases.{by_order, by_same}
use Rattle.model.proofs.Lists.{index_of}
use Rattle.lookup.proofs.Places.{facts, listed_edge, from_at, to_at}
use Rattle.flow.specs.Starts.{to}
use Rattle.flow.proofs.Edges.{is_edge, EdgesFrom, EdgeFrom, from_first, to_last, edge_from}
use Rattle.ways.specs.Ways.{most_states, steps}
use Rattle.following.specs.Following.{Seekable, Lowest}

-- Of edges from one vertex the later one has the higher end.
later_higher : (a b c d : ℕ) → edge_before a b c d ≡ true → a ≡ c → b < d
unfolding edge_before
later_higher a b c d before same = ltb-true b d (rw (le-ltb a c (omega arith), eq-eqb a c same) at before)

module _ {l begins : List ℕ} {u : ℕ} (edges : EdgesFrom l begins u) where
  abbrev Here : ℕ → Type 0
  Here i = (get_or begins u 0 ≤ i) × (i < get_or begins (u + 1) 0)

  next_higher : (i : ℕ) → Here i → Here (i + 1) → to (problem_of l) i < to (problem_of l) (i + 1)
  next_higher i here next =
      let e = edge_from edges i here.0 here.1 in
      let n = edge_from edges (i + 1) next.0 next.1 in
      let ok = facts l edges.checked in
      omega (
        arith,
        to_at l ok i e.here,
        to_at l ok (i + 1) n.here,
        later_higher _ _ _ _ (ok.ascend i (listed_edge l ok (i + 1) n.here))
            (omega (arith, from_at l ok i e.here, from_at l ok (i + 1) n.here, e.from_u, n.from_u)),
      )

  not_lower : (k i : ℕ) → Here i → Here (i + k) → to (problem_of l) i ≤ to (problem_of l) (i + k)
  not_lower zero i here there = let e : i + zero ≡ i = omega arith in rw e (omega arith)
  not_lower (suc k) i here there =
      let e : i + suc k ≡ i + k + 1 = omega arith in
      let before : Here (i + k) = (omega (arith, here.0), omega (arith, there.1)) in
      let last : Here (i + k + 1) = (omega (arith, here.0), omega (arith, there.1)) in
      rw e (omega (arith, not_lower k i here before, next_higher (i + k) before last))

  ends_ascend : (i j : ℕ) → i ≤ j → Here i → Here j → to (problem_of l) i ≤ to (problem_of l) j
  ends_ascend i j up here there = let e : i + (j - i) ≡ j = omega arith in rw e at (not_lower (j - i) i here (rw e there))

  module _ (d : List ℕ) (t k : ℕ) where
    -- No edge from u before i leads there, and one from i on does.
    pub record Seeking (i : ℕ) : Type 0 where
      pub first : get_or begins u 0 ≤ i
      pub missed : (j : ℕ) → get_or begins u 0 ≤ j → j < i → steps d (to (problem_of l) j) t ≡ k → ⊥
      pub hit : ℕ
      pub later : i ≤ hit
      pub last : hit < get_or begins (u + 1) 0
      pub has : steps d (to (problem_of l) hit) t ≡ k

    -- The number of an edge from u.
    numbered : (w : ℕ) → EdgeOf (problem_of l) u w → (j : ℕ) × Here j × (to (problem_of l) j ≡ w)
    numbered w edge =
        let (j, inside, is) = index_of zero_edge edge in
        let start = ap (λ (x : Edge). x.from) is in
        (j, (from_first edges j start, to_last edges j inside start), ap (λ (x : Edge). x.to) is)

    begun : (w : ℕ) → EdgeOf (problem_of l) u w → steps d w t ≡ k → Seeking (get_or begins u 0)
    begun w edge has =
        let (j, here, is) = numbered w edge in
        record {
          first = omega arith;
          missed = λ x low high e. omega arith;
          hit = j;
          later = here.0;
          last = here.1;
          has = rw is has;
        }

    module _ {i : ℕ} (seeking : Seeking i) where
      pub seek_here : EdgeFrom l u i
      seek_here = edge_from edges i seeking.first (omega (arith, seeking.later, seeking.last))

      -- The place of its end's number.
      pub seek_place : {w : ℕ} → w ≡ to (problem_of l) i → t < 2 → 2 * w + t < most_states
      seek_place is low = omega (arith, seek_here.end_small)

      module _ (miss : steps d (to (problem_of l) i) t ≡ k → ⊥) where
        past : (seeking.hit ≡ i) → ⊥
        past e = miss (subst (λ (j : ℕ). steps d (to (problem_of l) j) t ≡ k) e seeking.has)

        pub seek_on : Seeking (i + 1)
        seek_on = record {
          first = omega (arith, seeking.first);
          missed = λ j low high e.
              by_same j i (λ q. miss (subst (λ (x : ℕ). steps d (to (problem_of l) x) t ≡ k) q e)) (λ ne. seeking.missed j low (omega arith) e);
          hit = seeking.hit;
          later = by_same seeking.hit i (λ e. absurd (past e)) (λ ne. omega (arith, seeking.later));
          last = seeking.last;
          has = seeking.has;
        }

      pub sought : steps d (to (problem_of l) i) t ≡ k → Lowest (problem_of l) d u t k (to (problem_of l) i)
      sought has = record {
        edge = subst (λ (x : ℕ). EdgeOf (problem_of l) x (to (problem_of l) i)) seek_here.from_u (is_edge (problem_of l) i seek_here.here);
        has = has;
        least = λ w edge also.
            let (j, here, is) = numbered w edge in
            by_order j i (λ low. absurd (seeking.missed j here.0 low (rw is also)))
            (λ high. omega (arith, ends_ascend i j high (seeking.first, omega (arith, seeking.later, seeking.last)) here));
      }

pub from_vertex : {l begins d : List ℕ} {u t k : ℕ} → Seekable l begins d u t k → EdgesFrom l begins u
from_vertex s = record { checked = s.checked; starts = s.starts; there = s.there }

pub seek_begun : {l begins d : List ℕ} {u t k : ℕ} (s : Seekable l begins d u t k) → Seeking (from_vertex s) d t k (get_or begins u 0)
seek_begun {l} {begins} {d} {u} {t} {k} s = let (w, edge, has) = s.leads in begun (from_vertex s) d t k w edge has
