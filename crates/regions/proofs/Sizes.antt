-- The largest sizes of the regions, found in one pass over the functions.
use Prim.Native.Nat.{ℕ, ◌+◌, ◌≤◌, ◌<◌, max}
use mathlib.Core.Path.{◌≡◌, sym, ap, ◌∙◌}
use mathlib.Core.List.{List}
use mathlib.Core.Bool.{cond}
use native.Mathlib.Omega.{arith}
use lib.ListN.{length, get_or, set, replicate, length-set, length-replicate, get_or-replicate}
use lib.Seq.{get_or-set_same, get_or-set_other}
use lib.Dec.{eqb}
use borrow.Author.Tests.{eqb-true, eqb-false, ne_eqb}
use Rattle.model.specs.declared.Problem.{Problem}
use Rattle.model.specs.Costs.{size_of, largest}
use Rattle.model.specs.Limits.{most_regions}
use Rattle.model.specs.Layouts.{region_of, largest_in}
use Rattle.model.proofs.Cases.{by_bool}
use Rattle.regions.specs.Sizes.{Enlarged, LargestSizes}
use Rattle.regions.proofs.Sums.{largest_more}

-- One size more, in its region or in none.
module _ {sizes : List ℕ} (long : length sizes ≡ most_regions) {region : ℕ} (size : ℕ) where
  pub in_region : {most : ℕ} → region < most_regions → most ≡ max (get_or sizes region 0) size → Enlarged sizes region size (set sizes region most)
  in_region {most} below is = record { long = length-set sizes region most ∙ long; item = item }
    where
      item : (r : ℕ) → r < most_regions → get_or (set sizes region most) r 0 ≡ max (get_or sizes r 0) (cond (eqb region r) size 0)
      item r small =
          by_bool (eqb region r)
          (λ t. let same = eqb-true region r t in rw (t, ← same) (get_or-set_same sizes region most 0 (omega arith) ∙ is))
          (λ f. let other = eqb-false region r f in rw (f, get_or-set_other sizes region r most 0 (λ q. other (sym q))) (omega arith))

  pub in_none : most_regions ≤ region → Enlarged sizes region size sizes
  in_none out = record { long = long; item = λ r small. rw (ne_eqb region r (omega arith)) (omega arith) }

module _ (p : Problem) (layout : List ℕ) where
  abbrev size_in : ℕ → ℕ → ℕ
  size_in r f = cond (eqb (region_of layout f) r) (size_of p f) 0

  -- The largest sizes among the functions below f.
  pub record Sizing (f : ℕ) (sizes : List ℕ) : Type 0 where
    pub within : f ≤ p.function_count
    pub long : length sizes ≡ most_regions
    pub item : (r : ℕ) → r < most_regions → get_or sizes r 0 ≡ largest f (size_in r)

  pub none_sized : Sizing 0 (replicate most_regions 0)
  unfolding largest
  none_sized = record { within = omega arith; long = length-replicate {A = ℕ} most_regions 0; item = λ r below. get_or-replicate most_regions r 0 0 below }

  module _ {f : ℕ} {sizes : List ℕ} (sizing : Sizing f sizes) where
    pub one_sized : {after : List ℕ} {region size : ℕ} → f < p.function_count → region ≡ region_of layout f → size ≡ size_of p f →
        Enlarged sizes region size after → Sizing (f + 1) after
    one_sized {after} below region_is size_is enlarged =
        record {
          within = omega arith;
          long = enlarged.long;
          item = λ r small. (rw (region_is, size_is, sizing.item r small) at (enlarged.item r small)) ∙ largest_more (size_in r) f;
        }

    pub all_sized : p.function_count ≤ f → LargestSizes p layout sizes
    unfolding largest_in
    all_sized past =
        let last : f ≡ p.function_count = omega (arith, sizing.within) in
        record { long = sizing.long; item = λ r small. sizing.item r small ∙ ap (λ (n : ℕ). largest n (size_in r)) last }
