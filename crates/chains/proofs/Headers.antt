-- What the chains of the loops tell of the loop that begins at a vertex.
use Prim.Native.Nat.{ℕ, suc, ◌<◌}
use mathlib.Core.Path.{◌≡◌, ap, ◌∙◌}
use mathlib.Core.List.{List}
use native.Mathlib.Omega.{arith}
use lib.ListN.{length, get_or}
use Rattle.model.specs.Operations.{Checked}
use Rattle.model.specs.Places as places
use Rattle.lookup.specs.Lists.{loops_in}
use Rattle.chains.specs.Chains.{around, headers, LoopChains, BeginsAt}
use Rattle.chains.proofs.Chains.{last_within}
use Rattle.chains.proofs.Nesting.{begins_last}

module _ (l loops : List ℕ) (v : ℕ) (chains : LoopChains l loops) (inside : v < places.most_vertices) where
  -- Loop i is the last that holds v.
  module _ (i : ℕ) (q : get_or loops v 0 ≡ suc i) where
    pub last_listed : i < length (loops_in l)
    last_listed = omega (arith, chains.last v inside, last_within (around l v) (length (loops_in l)))

    pub begins_here : headers l i ≡ v → BeginsAt (loops_in l) v i
    begins_here e = record { found = λ _. e; none = λ over. absurd (omega (arith, last_listed)) }

  begins_nowhere : {r : ℕ} → Checked l → r ≡ length (loops_in l) → ((i : ℕ) → get_or loops v 0 ≡ suc i → headers l i ≡ v → ⊥) → BeginsAt (loops_in l) v r
  begins_nowhere ok is other = record { found = λ below. absurd (omega arith); none = λ _. begins_last ok v (chains.last v inside) other }

  pub begins_none : {r : ℕ} → Checked l → r ≡ length (loops_in l) → get_or loops v 0 ≡ 0 → BeginsAt (loops_in l) v r
  begins_none ok is z = begins_nowhere ok is (λ i q e. omega arith)

  pub begins_before : {r : ℕ} (i : ℕ) → get_or loops v 0 ≡ suc i → Checked l → r ≡ length (loops_in l) → (headers l i ≡ v → ⊥) → BeginsAt (loops_in l) v r
  begins_before i q ok is other = begins_nowhere ok is (λ j p e. let z : i ≡ j = omega arith in other (ap (headers l) z ∙ e))
