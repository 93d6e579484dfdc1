-- Along the chain of the edges to the vertex whose turn it is, from the last edge to the first.
use Prim.Native.Nat.{ℕ, suc, ◌+◌, ◌≤◌, ◌<◌}
use mathlib.Core.Path.{◌≡◌, sym, ap, ◌∙◌}
use mathlib.Core.List.{List}
use mathlib.Core.Logic.{inl, inr}
use native.Mathlib.Omega.{arith}
use lib.ListN.{get_or}
use borrow.Author.Tests.{eq-eqb, eqb-true}
use Rattle.model.specs.declared.Edge.{Edge}
use Rattle.model.specs.Zero.{zero_edge}
use Rattle.model.specs.Numbers.{problem_of}
use Rattle.model.specs.Places.{most_vertices}
use Rattle.model.proofs.Cases.{by_order, by_same}
use Rattle.model.proofs.Lists.{index_of}
use Rattle.lookup.specs.Lists.{edges_in}
use Rattle.greatest.specs.Numbers.{ends}
use Rattle.chains.specs.Chains.{last_below, edge_count, leads, EdgeChains}
use Rattle.chains.proofs.Chains.{last_within, last_passes, last_least}
use Rattle.distances.specs.Searching.{Passing, AllPassed, Arriving, StartOf, StartPassed}
use Rattle.distances.proofs.Passing.{pass_none, pass_more, pass_less, arrives_still}

-- The start of an edge to w, in each phase before phase t.
pub record Start (l : List ℕ) (f g w t u s : ℕ) : Type 0 where
  pub i : ℕ
  pub below : i < edge_count l
  pub leads_w : ends (edges_in l) i ≡ w
  pub start : StartOf l f g i t u s

-- It is one of those from `next` on.
abbrev pub StartFrom : List ℕ → ℕ → ℕ → ℕ → ℕ → ℕ → ℕ → ℕ → Type 0
StartFrom l f g w t next u s = (edge : Start l f g w t u s) × (next ≤ edge.i)

module _ (l : List ℕ) (f g w t number : ℕ) where
  -- Those have a number. The chain goes on with the edge below `next`.
  pub record Along (d queue : List ℕ) (end next : ℕ) (d' queue' : List ℕ) (end' : ℕ) : Type 0 where
    pub within : next ≤ edge_count l
    pub to : (i : ℕ) → next ≡ suc i → ends (edges_in l) i ≡ w
    pub passing : Passing (problem_of l) f g w t number (StartFrom l f g w t next) d queue end d' queue' end'

module _ {l : List ℕ} {f g w t number : ℕ} {d queue : List ℕ} {end : ℕ} where
  -- Past the edges that lead elsewhere.
  skipped : {m next : ℕ} {d' queue' : List ℕ} {end' : ℕ} → m ≤ edge_count l → next ≡ last_below (leads l w) m →
      Passing (problem_of l) f g w t number (StartFrom l f g w t m) d queue end d' queue' end' → Along l f g w t number d queue end next d' queue' end'
  unfolding leads
  skipped {m} {next} inside is passing = record {
    within = omega (arith, last_within (leads l w) m);
    to = λ i q. eqb-true (ends (edges_in l) i) w (last_passes (leads l w) m i (sym is ∙ q));
    passing = pass_less passing (λ u s (edge, later). (
      edge,
      by_order edge.i m
          (λ less.
          let member = eq-eqb (ends (edges_in l) edge.i) w edge.leads_w in
          absurd (omega (arith, last_least (leads l w) m edge.i less member)))
          (λ high. high),
    ));
  }

  module _ {edges : List ℕ} (chains : EdgeChains l edges) where
    pub along_none : w < most_vertices → Along l f g w t number d queue end (get_or edges w 0) d queue end
    along_none inside = skipped (omega arith) (chains.last w inside) (pass_none (λ u s (edge, later). omega (arith, edge.below)))

    pub along_more : (i : ℕ) {next : ℕ} {mid between d' queue' : List ℕ} {part end' : ℕ} → next ≡ suc i →
        Along l f g w t number d queue end next mid between part → StartPassed l f g i t number mid between part d' queue' end' →
        Along l f g w t number d queue end (get_or edges (most_vertices + i) 0) d' queue' end'
    along_more i {next} is along start =
        let below : i < edge_count l = omega (arith, along.within) in
        let to_w = along.to i is in
        skipped (omega arith) (rw to_w at (chains.link i below))
        (pass_more along.passing (rw to_w at start) (λ u s (edge, later). by_same edge.i i
        (λ e. inr (rw e at edge.start))
        (λ ne. inl (edge, omega arith))))

  -- The next edge of the chain leads to w, and it is still the turn of w.
  pub along_next : (i : ℕ) {next : ℕ} {d' queue' : List ℕ} {end' : ℕ} → next ≡ suc i → Arriving l f g w t number d queue end →
      Along l f g w t number d queue end next d' queue' end' → (i < edge_count l) × Arriving l f g (ends (edges_in l) i) t number d' queue' end'
  along_next i is arriving along = (omega (arith, along.within), rw (along.to i is) (arrives_still arriving along.passing))

  pub along_all : {next : ℕ} {d' queue' : List ℕ} {end' : ℕ} → next ≤ 0 → Along l f g w t number d queue end next d' queue' end' →
      AllPassed (problem_of l) f g w t number d queue end d' queue' end'
  along_all over along = pass_less along.passing (λ u s before.
      let (i, below, is) = index_of zero_edge before.edge in
      let start : StartOf l f g i t u s = record { start = sym (ap (λ (e : Edge). e.from) is); low = before.low; turns = before.turns } in
      (record { i = i; below = below; leads_w = ap (λ (e : Edge). e.to) is; start = start }, omega arith))
