-- All vertices: tables of zeros to begin with, and what stands at the last vertex in the end.
use Prim.Native.Nat.{ℕ, zero, suc, ◌+◌, ◌-◌, ◌*◌, min}
use mathlib.Core.Path.{◌≡◌, refl}
use mathlib.Core.List.{List}
use mathlib.Core.Logic.{inl, inr}
use native.Mathlib.Nat.{mul-zero}
use native.Mathlib.Omega.{arith}
use lib.ListN.{get_or, replicate}
use Rattle.model.specs.declared.Loop.{Loop}
use Rattle.model.specs.Numbers.{problem_of}
use Rattle.model.specs.Walks.{last_vertex, weights}
use Rattle.model.specs.Places as places
use Rattle.model.specs.Operations.{Checked}
use Rattle.lookup.specs.Lists.{vertices_in, edges_in, loops_in}
use Rattle.greatest.specs.Numbers.{starts, ends, Solved}
use Rattle.greatest.specs.Greatest.{GreatestCapped}
use Rattle.greatest.proofs.Graph.{linked}
use Rattle.greatest.proofs.Filling.{complete}
use Rattle.greatest.proofs.Exact.{at_last_lem}
use Rattle.greatest.proofs.Checked.{checked_graph, checked_ranges}
use Rattle.chains.specs.Chains.{edge_count}
use Rattle.stays.specs.Tables.{cap, Capped, by_header, by_vertex}
use Rattle.iterations.specs.Filling.{Filling, Since}

zero_at : (n k : ℕ) → ◌≡◌ {A = ℕ} (get_or (replicate n 0) k 0) 0
zero_at zero k = refl
zero_at (suc n) zero = refl
zero_at (suc n) (suc k) = zero_at n k

zeros : Capped (replicate places.most_vertices 0)
zeros = record { most = λ k. omega (arith, zero_at places.most_vertices k) }

nothing_kept : (k : Loop) → by_header (replicate places.most_vertices 0) k ≡ min cap (by_header (replicate places.most_vertices 0) k + (k.bound - 1) * 0)
unfolding by_header
nothing_kept k = rw (zero_at places.most_vertices k.header, mul-zero (k.bound - 1)) (omega arith)

none : (k : Loop) → Since 0 0 k → ⊥
none k (inl s) = omega arith
none k (inr s) = omega arith

module _ {l charge enter : List ℕ} where
  pub nothing_filled : Checked l → Capped charge → Capped enter
      → Filling l charge enter (replicate places.most_vertices 0) (replicate places.most_vertices 0) (replicate places.most_vertices 0) 0 (Since 0 0)
  nothing_filled ok charges enters =
      record {
        turns = λ k. 0;
        ready = record { checked = ok; visits = zeros; stays = zeros };
        entries = zeros;
        charges = charges;
        enters = enters;
        visits_long = refl;
        entries_long = refl;
        stays_long = refl;
        kept = record { stays = λ k i. nothing_kept k; later = λ k i h. refl };
        upto = record {
          first = λ s. absurd (omega arith);
          head = λ v k i q s. absurd (omega arith);
          inner = λ v s. absurd (omega arith);
          begin = λ k i q s. absurd (omega arith);
          entry = λ v k i q z s. absurd (omega arith);
          again = λ v k i q s. absurd (none k s);
        };
      }

  module _ {d e w : List ℕ} (f : Filling l charge enter d e w (vertices_in l) (Since 0 (vertices_in l))) where
    all_filled :
        Solved (starts (edges_in l)) (ends (edges_in l)) (edge_count l) (loops_in l) (by_vertex charge) (by_header enter) (by_vertex d) (by_header e) f.turns cap
        (vertices_in l)
    all_filled =
        let ok = f.ready.checked in
        complete (linked (checked_graph l ok) (checked_ranges l ok)) (checked_ranges l ok).some_vertex
        (λ k i. inr (omega arith, (checked_ranges l ok).last k i)) f.upto

    greatest_at : GreatestCapped (problem_of l) cap (weights (loops_in l) (by_vertex charge) (by_header enter)) (get_or d (last_vertex (problem_of l)) 0)
    unfolding by_vertex
    greatest_at =
        let r = f.ready in
        at_last_lem (problem_of l) (checked_graph l r.checked) (checked_ranges l r.checked) all_filled (r.visits.most _)

  -- The same, the vertices counted by a number.
  pub greatest_at_last : {d e w : List ℕ} {n : ℕ} → n ≡ vertices_in l → Filling l charge enter d e w n (Since 0 n)
      → GreatestCapped (problem_of l) cap (weights (loops_in l) (by_vertex charge) (by_header enter)) (get_or d (n - 1) 0)
  greatest_at_last is f = rw is (greatest_at (rw is at f))
