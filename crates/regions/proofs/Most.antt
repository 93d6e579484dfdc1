-- What the regions of a checked problem's layout come to at most.
use Prim.Native.Nat.{ℕ, ◌+◌, ◌*◌, ◌≤◌, ◌<◌}
use mathlib.Core.List.{List}
use native.Mathlib.Omega.{arith}
use lib.Dec.{eqb}
use Rattle.model.specs.Numbers.{problem_of}
use Rattle.model.specs.Operations.{Checked}
use Rattle.model.specs.Costs.{total}
use Rattle.model.specs.Layouts.{region_of, largest_in}
use Rattle.model.proofs.Cases.{by_cond}
use Rattle.lookup.proofs.Places.{facts, size_high}
use Rattle.regions.proofs.Sums.{largest_high, total_high}
use Rattle.model.specs.Limits as limits

module _ (l : List ℕ) (checked : Checked l) (layout : List ℕ) where
  pub largest_in_high : (r : ℕ) → largest_in (problem_of l) layout r ≤ limits.most_bytes
  unfolding largest_in
  largest_in_high r =
      largest_high _ (problem_of l).function_count limits.most_bytes
      (λ f below. by_cond (λ (x : ℕ). x ≤ limits.most_bytes) (eqb (region_of layout f) r) (λ e. size_high l (facts _ checked) f below) (λ e. omega arith))

  -- A sum over some of the regions, with the next one's bytes.
  pub sum_high : (r : ℕ) → r < limits.most_regions → total r (largest_in (problem_of l) layout) + largest_in (problem_of l) layout r ≤ limits.most_regions * limits.most_bytes
  sum_high r below =
      omega (
        arith,
        largest_in_high r,
        total_high (largest_in (problem_of l) layout) r limits.most_bytes (λ k h. largest_in_high k),
      )
