-- The reason is the true kind: number 1 just where the vertex is contested, number 2 just where it is early, and a function is cold just where one of its vertices
-- has number 2.
use Prim.Native.Nat.{ℕ, ◌<◌}
use mathlib.Core.Path.{◌≡◌, refl}
use mathlib.Core.List.{List}
use mathlib.Core.Bool.{Bool, true}
use mathlib.Core.Logic.{◌↔◌}
use native.Mathlib.Omega.{arith}
use Rattle.model.specs.declared.Problem.{Problem}
use Rattle.model.specs.declared.Reason.{Reason}
use Rattle.model.specs.declared.Reason.TheVariants.{EveryVisit, FirstLoad, Never}
use Rattle.model.specs.Numbers.{problem_of}
use Rattle.model.specs.Operations.{Checked}
use Rattle.model.specs.Costs.{function_of}
use Rattle.model.specs.Walks.{EdgeOf}
use Rattle.model.specs.Layouts.{region_of}
use Rattle.model.specs.Interference.{Contested, Early, Cold}
use Rattle.model.specs.Charges.{Told}
use Rattle.model.specs.Evictions.{reason_number, EvictionBy, EvictionIs}
use Rattle.lookup.proofs.Walks.{walk_below}

module _ (fn : ℕ → ℕ) (Edge : ℕ → ℕ → Type 0) (region : ℕ → ℕ) (v : ℕ) where
  contested_first : (reason : Reason) (walk : List ℕ) → EvictionBy fn Edge region v reason walk → (reason_number reason ≡ 1) ↔ Contested fn Edge region v
  contested_first (EveryVisit g) walk (evicts, lowest, shown) = (λ e. (g, evicts.0, evicts.1), λ c. refl)
  contested_first FirstLoad walk (early, shown) = (λ e. absurd (omega arith), λ c. absurd (early.0 c))
  contested_first Never walk (free, known, none) = (λ e. absurd (omega arith), λ c. absurd (free c))

  -- 2: this vertex itself is early.
  pub early_second : (reason : Reason) (walk : List ℕ) → EvictionBy fn Edge region v reason walk → (reason_number reason ≡ 2) ↔ Early fn Edge region v
  early_second (EveryVisit g) walk (evicts, lowest, shown) = (λ e. absurd (omega arith), λ early. absurd (early.0 (g, evicts.0, evicts.1)))
  early_second FirstLoad walk (early, shown) = (λ e. early, λ c. refl)
  early_second Never walk (free, known, none) = (λ e. absurd (omega arith), λ early. absurd (known early.1))

-- 1: wherever any test that tells contested vertices says so.
pub told_first : {p : Problem} {layout : List ℕ} {contested early cold : ℕ → Bool} → Told p layout contested early cold →
    (v : ℕ) (reason : Reason) (walk : List ℕ) → EvictionIs p layout v reason walk → (reason_number reason ≡ 1) ↔ (contested v ≡ true)
told_first {p} {layout} told v reason walk is =
    let (to, from) = contested_first (function_of p) (EdgeOf p) (region_of layout) v reason walk is in
    (λ e. told.contested_all v (to e), λ e. from (told.contested_is v e))

-- Of a checked problem, with a reason for each vertex.
module _ (l : List ℕ) (ok : Checked l) (layout : List ℕ) (reason : ℕ → Reason) (walk : ℕ → List ℕ)
    (is : (v : ℕ) → v < (problem_of l).vertex_count → EvictionIs (problem_of l) layout v (reason v) (walk v)) where
  abbrev FirstLoaded : ℕ → Type 0
  FirstLoaded f = (v : ℕ) × (v < (problem_of l).vertex_count) × (function_of (problem_of l) v ≡ f) × (reason_number (reason v) ≡ 2)

  pub cold_first_load : (f : ℕ) → Cold (function_of (problem_of l)) (EdgeOf (problem_of l)) (region_of layout) f ↔ FirstLoaded f
  cold_first_load f = (
    λ (v, own, early).
        let (h, arrives, apart) = early.1 in
        let below = walk_below ok arrives in
        (v, below, own, (early_second (function_of (problem_of l)) (EdgeOf (problem_of l)) (region_of layout) v (reason v) (walk v) (is v below)).1 early),
    λ (v, below, own, second).
        (v, own, (early_second (function_of (problem_of l)) (EdgeOf (problem_of l)) (region_of layout) v (reason v) (walk v) (is v below)).0 second),
  )
