-- The start of an edge to the vertex whose turn it is, in both phases.
use Prim.Native.Nat.{ℕ, ◌+◌, ◌*◌, ◌≤◌, ◌<◌}
use mathlib.Core.Path.{◌≡◌, sym, ◌∙◌}
use mathlib.Core.List.{List}
use mathlib.Core.Logic.{inl, inr}
use native.Mathlib.Omega.{arith}
use lib.Dec.{eqb}
use lib.ListN.{get_or}
use Rattle.model.specs.Zero.{zero_edge}
use Rattle.model.specs.Numbers.{problem_of}
use Rattle.model.specs.Costs.{function_of}
use Rattle.model.specs.Places.{most_vertices}
use Rattle.model.proofs.Cases.{by_same}
use Rattle.model.proofs.Lists.{mem-get_or}
use Rattle.lookup.specs.Lists.{edges_in}
use Rattle.lookup.proofs.Places.{facts, from_small}
use Rattle.greatest.specs.Numbers.{starts, ends}
use Rattle.chains.specs.Chains.{edge_count}
use Rattle.ways.specs.Ways.{phase_after, most_states, no_way}
use Rattle.distances.specs.Searching.{Entered, Passing, Arriving, StartPassed}
use Rattle.distances.proofs.Queued.{is_room}
use Rattle.distances.proofs.Passing.{InPhase, pass_more, pass_one}

-- The start of edge i, which is u, in one phase.
abbrev pub PhasePassed : List ℕ → ℕ → ℕ → ℕ → ℕ → ℕ → ℕ → ℕ → List ℕ → List ℕ → ℕ → List ℕ → List ℕ → ℕ → Type 0
PhasePassed l f g i t number u s = Passing (problem_of l) f g (ends (edges_in l) i) t number (InPhase (problem_of l) f g t u s)

module _ {l : List ℕ} {f g i t number u : ℕ} (below : i < edge_count l) (at_u : u ≡ starts (edges_in l) i) where
  module _ {d queue : List ℕ} {end : ℕ} (arriving : Arriving l f g (ends (edges_in l) i) t number d queue end) where
    pub start_small : u < most_vertices
    start_small = rw at_u (from_small l (facts l arriving.checked) i below)

    module _ {s state : ℕ} (low : s < 2) (is : state ≡ 2 * u + s) where
      pub phase_ready : (state < most_states) × (no_way ≤ get_or d state 0 → end < most_states)
      phase_ready =
          let here : state < most_states = omega (arith, start_small) in (here, is_room arriving.turning.searching.queued here)

      pub phase_passed : {k after : ℕ} → k ≡ function_of (problem_of l) u → after ≡ phase_after f g k s → {d' queue' : List ℕ} {end' : ℕ} →
          Entered (eqb after t) state number d queue end d' queue' end' → PhasePassed l f g i t number u s d queue end d' queue' end'
      phase_passed is_k is_after entered =
          pass_one arriving.turning start_small (rw at_u (mem-get_or (edges_in l) i zero_edge below)) low
          (rw (is, is_after, is_k) at entered)

  pub start_passed : {d queue mid between : List ℕ} {end part : ℕ} {d' queue' : List ℕ} {end' : ℕ} →
      PhasePassed l f g i t number u 0 d queue end mid between part → PhasePassed l f g i t number u 1 mid between part d' queue' end' →
      StartPassed l f g i t number d queue end d' queue' end'
  start_passed first second = pass_more first second (λ x r is.
      let same : x ≡ u = is.start ∙ sym at_u in
      by_same r 0 (λ e. inl (same, e, is.turns)) (λ ne. inr (same, omega (arith, is.low), is.turns)))
