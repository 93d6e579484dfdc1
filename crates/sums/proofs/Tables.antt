-- What tables of charges weigh along a lawful walk is what the definitions say: visit charges, or the second total.
use Prim.Native.Nat.{ℕ}
use mathlib.Core.Path.{refl, ◌∙◌}
use mathlib.Core.List.{List, ◌∷◌}
use mathlib.Core.Bool.{Bool}
use native.Mathlib.Omega.{arith}
use lib.ListN.{replicate}
use Rattle.model.specs.Numbers.{problem_of}
use Rattle.model.specs.Operations.{Checked}
use Rattle.model.specs.Places as places
use Rattle.model.specs.Graph.{loops_of}
use Rattle.model.specs.Walks.{last_vertex, weights}
use Rattle.model.specs.Charges.{visit_charge, second_total, charges}
use Rattle.model.proofs.Lists.{get_or-replicate_self}
use Rattle.lookup.proofs.Places.{facts, vertex_small}
use Rattle.greatest.specs.Greatest.{GreatestCapped}
use Rattle.greatest.proofs.Weights.{weights_plain, weights_same}
use Rattle.greatest.proofs.Exact.{capped_same}
use Rattle.chains.specs.Chains.{LoopChains}
use Rattle.stays.specs.Tables.{cap, Capped, by_vertex, by_header}
use Rattle.charges.specs.Tests.{flagged, Charged}
use Rattle.early.specs.Early.{early_in, EarlyApart}
use Rattle.lookup.proofs.Walks.{walk_below}
use Rattle.second.specs.Second.{SecondFlags, EntriesCharged}
use Rattle.second.proofs.Flags.{second_charged}

pub charged_capped : (l : List ℕ) (test : ℕ → Bool) (charge : List ℕ) → Charged (problem_of l) test charge → Capped charge
charged_capped l test charge charged = record { most = λ k. omega (arith, charged.small k) }

pub zeros_capped : Capped (replicate places.most_vertices 0)
zeros_capped = record { most = λ k. omega (arith, get_or-replicate_self {A = ℕ} places.most_vertices k 0) }

pub entries_capped : (l early enter : List ℕ) → EntriesCharged (problem_of l) early enter → Capped enter
entries_capped l early enter entries = record { most = λ k. omega (arith, entries.small k) }

module _ (l : List ℕ) (ok : Checked l) (charge : List ℕ) {r : ℕ} where
  pub plain_weight : (test : ℕ → Bool) → Charged (problem_of l) test charge
      → GreatestCapped (problem_of l) cap (weights (loops_of (problem_of l)) (by_vertex charge) (by_header (replicate places.most_vertices 0))) r
      → GreatestCapped (problem_of l) cap (charges (visit_charge (problem_of l) test)) r
  unfolding by_vertex by_header
  plain_weight test charged =
      capped_same (problem_of l) cap _ _
      (λ h w.
      weights_same (λ v h walk. walk_below ok walk) charged.charged (λ k i. get_or-replicate_self {A = ℕ} places.most_vertices k.header 0) w.walk
      ∙ weights_plain (loops_of (problem_of l)) (visit_charge (problem_of l) test) (λ k. 0) (λ k i. refl) (last_vertex (problem_of l) ∷ h))

  pub second_weight : (loops early flags charged enter : List ℕ) → LoopChains l loops → EarlyApart (problem_of l) flags early
      → SecondFlags (problem_of l) loops early flags charged → Charged (problem_of l) (flagged charged) charge → EntriesCharged (problem_of l) early enter
      → GreatestCapped (problem_of l) cap (weights (loops_of (problem_of l)) (by_vertex charge) (by_header enter)) r
      → GreatestCapped (problem_of l) cap (second_total (problem_of l) (flagged flags) (early_in early)) r
  unfolding by_vertex by_header
  second_weight loops early flags charged enter chains is_early second is_charged entries =
      capped_same (problem_of l) cap _ _
      (λ h w.
      weights_same (λ v h walk. walk_below ok walk)
      (λ v below. is_charged.charged v below ∙ second_charged l loops early flags charged chains is_early second v below (vertex_small _ (facts _ ok) v below))
      entries.each w.walk)
