-- The chains of the loops, filled a loop at a time.
use Prim.Native.Nat.{ℕ, ◌+◌, ◌≤◌}
use mathlib.Core.Path.{◌≡◌, ◌∙◌}
use mathlib.Core.List.{List}
use native.Mathlib.Omega.{arith}
use lib.ListN.{length, get_or, set, replicate, length-set, length-replicate}
use lib.Seq.{get_or-set_same, get_or-set_other}
use Rattle.model.specs.Graph.{loop}
use Rattle.model.specs.Places as places
use Rattle.model.proofs.Cases.{by_order}
use Rattle.lookup.specs.Lists.{loops_in}
use Rattle.greatest.proofs.Loops.{holds_from, past_range}
use Rattle.chains.specs.Chains.{loop_places, Chains, around, headers, LoopChains, Overwritten}
use Rattle.chains.proofs.Checks.{LoopRange, range_small}
use Rattle.chains.proofs.Chains.{no_chains, one_more_lem, all_chains}

-- The first i loops are in the table.
pub record LoopsIn (l : List ℕ) (i : ℕ) (s : List ℕ) : Type 0 where
  pub within : i ≤ length (loops_in l)
  pub long : length s ≡ loop_places
  pub chains : Chains (around l) (headers l) i s

module _ (l : List ℕ) where
  pub no_loops : LoopsIn l 0 (replicate loop_places 0)
  no_loops = record { within = omega arith; long = length-replicate {A = ℕ} loop_places 0; chains = no_chains loop_places (omega arith) }

  pub all_loops : {i : ℕ} {s : List ℕ} → length (loops_in l) ≤ i → LoopsIn l i s → LoopChains l s
  all_loops over so_far = all_chains so_far.within over so_far.chains

  pub one_loop : {i header last : ℕ} {s t : List ℕ} → LoopRange l i header last → LoopsIn l i s
      → Overwritten (set s (places.most_vertices + i) (get_or s header 0)) t header (last + 1) (i + 1) → LoopsIn l (i + 1) t
  unfolding around
  one_loop {i} {header} {last} {s} {t} range so_far m =
      let small = range_small range in
      let at : header ≡ headers l i = range.at_header in
      let link : get_or (set s (places.most_vertices + i) (get_or s header 0)) (places.most_vertices + i) 0 ≡ get_or s header 0 =
      get_or-set_same s (places.most_vertices + i) (get_or s header 0) 0 (omega arith) in
      record {
        within = omega arith;
        long = m.long ∙ length-set s (places.most_vertices + i) (get_or s header 0) ∙ so_far.long;
        chains =
            one_more_lem so_far.chains (omega arith)
            (λ v h e. let p = holds_from (loop (loops_in l) i) v e in m.inside v (omega arith) (omega arith))
            (λ v h e.
            by_order v header (m.below v) (λ p. m.above v (omega (arith, past_range (loop (loops_in l) i) v e (omega arith))))
            ∙ get_or-set_other s (places.most_vertices + i) v (get_or s header 0) 0 (λ q. omega arith))
            (m.above (places.most_vertices + i) (omega arith) ∙ link ∙ (rw at))
            (λ j h. m.above (places.most_vertices + j) (omega arith) ∙ get_or-set_other s (places.most_vertices + i) (places.most_vertices + j) (get_or s header 0) 0 (λ q. omega arith));
      }
