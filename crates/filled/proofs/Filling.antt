-- Filling in, function by function: the regions so far, those in use as a word, and that the lowest free one rises.
use Prim.Native.Nat.{ℕ, zero, suc, ◌+◌, ◌*◌, ◌%◌, ◌^◌, ◌≤◌, ◌<◌}
use mathlib.Core.Path.{◌≡◌, refl, sym, ap, ◌∙◌, subst}
use mathlib.Core.List.{List, [], ◌∷◌, ◌++◌}
use mathlib.Core.Bool.{Bool, true, false, not, ◌||◌}
use native.Mathlib.Omega.{arith}
use lib.ListN.{length, get_or, take, set, length-set, length-append, get_or-append}
use lib.Seq.{get_or-take, length-take-le, get_or-append_seam, get_or-set_same, get_or-set_other}
use lib.Dec.{eqb, ltb}
use lib.Bits.{bit_or}
use borrow.Author.Count.{below_none, below_more}
use borrow.Author.Tests.{ne_eqb}
use Rattle.model.specs.Limits.{most_regions}
use Rattle.model.specs.Places.{most_functions}
use Rattle.model.specs.Search.{exists_below, lowest_below}
use Rattle.model.specs.Layouts.{taken, lowest_free, filled_in, region_of}
use Rattle.model.proofs.Lists.{is_table}
use Rattle.model.proofs.Search.{Searched, start, miss, hit, none, exists_first, exists_more, lowest_alike}
use Rattle.bits.specs.Tests.{has}
use Rattle.bits.proofs.Bits.{one_shl}
use Rattle.bits.proofs.Tests.{has_or, has_zero, has_pow}
use Rattle.model.proofs.Cases.{by_bool, by_order}
use Rattle.std.specs.Int.{trailing_ones, bit_at, w32}
use Rattle.std.proofs.lemmas.Nat.Bits.{bit_at-trailing_ones}
use Rattle.filled.specs.Filling.{WithRegion, Filling, FilledFront}
use Rattle.filled.proofs.Filled.{filled_table, unlisted}

-- One function more.
taken_more : (rs : List ℕ) (x r : ℕ) → taken (rs ++ (x ∷ [])) r ≡ (taken rs r || eqb r x)
taken_more rs x r =
    let longer : length (rs ++ (x ∷ [])) ≡ suc (length rs) = length-append rs _ ∙ omega arith in
    let before =
    lowest_alike (length rs) (λ g. eqb r (get_or (rs ++ (x ∷ [])) g 0)) (λ g. eqb r (get_or rs g 0))
    (λ g h. ap (eqb r) (get_or-append rs _ 0 g h)) in
    ap (λ (n : ℕ). exists_below n (λ g. eqb r (get_or (rs ++ (x ∷ [])) g 0))) longer
    ∙ exists_more (length rs) _
    ∙ (λ i. ltb (before i) (length rs) || eqb r (get_or-append_seam rs x [] 0 i))

-- One region more: none above the last, or its bit.
module _ (used region : ℕ) where
  pub no_region : most_regions ≤ region → WithRegion used region used
  no_region high r h = rw (ne_eqb r region (λ q. omega arith)) (by_bool (has used r) (λ e. rw e) (λ e. rw e))

  pub one_region : region < most_regions → WithRegion used region (bit_or used ((1 * 2 ^ region) % 2 ^ 32))
  one_region low r h = rw (one_shl region low, has_or used (2 ^ region) r, has_pow region r)

-- The lowest number that passes a test, told by the numbers below it.
lowest_is : (n t : ℕ) (test : ℕ → Bool) → t ≤ n → ((i : ℕ) → i < t → test i ≡ false) → (t < n → test t ≡ true) → t ≡ lowest_below n test
lowest_is n t test within missed passes =
    by_order t n (λ h. hit (up_to t within missed) h (passes h)) (λ h. omega (arith, none (up_to t within missed) h))
  where
    up_to : (k : ℕ) → k ≤ n → ((i : ℕ) → i < k → test i ≡ false) → Searched n test k
    up_to zero within missed = start _ _
    up_to (suc k) within missed =
        let next : k + 1 ≡ suc k = omega arith in
        subst (Searched n test) next (miss (up_to k (omega arith) (λ i h. missed i (omega arith))) (omega arith) (missed k (omega arith)))

-- The regions in use, from region 0 on: all of them, or those up to the lowest 0.
all_used : trailing_ones w32 4294967295 ≡ lowest_below most_regions (λ k. not (has 4294967295 k))
unfolding has Rattle.model.specs.Search.lowest_from lib.Count.count_trailing_zeros
all_used = refl

module _ (used : ℕ) where
  is_used : (k : ℕ) → bit_at used k ≡ 1 → not (has used k) ≡ false
  unfolding has
  is_used k e = rw e

  is_free : (k : ℕ) → bit_at used k ≡ 0 → not (has used k) ≡ true
  unfolding has
  is_free k e = rw e

  pub free_is : used < 2 ^ 32 → trailing_ones w32 used ≡ lowest_below most_regions (λ k. not (has used k))
  free_is word =
      by_order (used + 1) (2 ^ 32)
      (λ h. let r = bit_at-trailing_ones w32 used h in lowest_is most_regions _ _ (omega (arith, r.0)) (λ i k. is_used i (r.2 i k)) (λ _. is_free _ r.1))
      (λ h. let e : used ≡ 4294967295 = omega arith in rw e all_used)

-- Before the first function, in an array of any regions.
pub filling_none : (layout regions : List ℕ) → length regions ≡ most_functions → Filling layout 0 regions 0
unfolding filled_in
filling_none layout regions long =
    record { long = long; item = below_none _; in_use = λ r h. has_zero r ∙ sym (exists_first _) }

module _ {layout regions : List ℕ} {f used : ℕ} (so_far : Filling layout f regions used) where
  -- One function more, with its region.
  module _ (few : f < most_functions) {region : ℕ} (region_is : region ≡ region_of layout f) (after : ℕ) (with : WithRegion used region after) where
    one_more_lem : (r : ℕ) → r < most_regions → has after r ≡ taken (filled_in layout (f + 1)) r
    unfolding filled_in region_of
    one_more_lem r h =
        let next : f + 1 ≡ suc f = omega arith in
        with r h
        ∙ (λ i. so_far.in_use r h i || eqb r (region_is i))
        ∙ sym (taken_more (filled_in layout f) _ r)
        ∙ ap (λ (n : ℕ). taken (filled_in layout n) r) (sym next)

    pub filling_more : Filling layout (f + 1) (set regions f region) after
    filling_more =
        record {
          long = length-set regions f region ∙ so_far.long;
          item =
              below_more _ f (λ g h. get_or-set_other regions f g region 0 (omega arith) ∙ so_far.item g h)
              (get_or-set_same regions f region 0 (omega (arith, so_far.long)) ∙ region_is);
          in_use = one_more_lem;
        }

  pub filling_all : {n : ℕ} → n ≤ f → n ≤ most_functions → FilledFront layout n regions
  filling_all {n} over few =
      let room : n ≤ length regions = omega (arith, so_far.long) in
      record {
        room = room;
        front =
            is_table n (region_of layout) 0 (take n regions) (length-take-le n regions room) (λ g h. get_or-take n regions g 0 h ∙ so_far.item g (omega arith))
            ∙ sym (filled_table layout n);
      }

  -- The lowest region that is not in use is the next function's, where the layout does not list it.
  module _ {lowest : ℕ} (lowest_is : lowest ≡ lowest_below most_regions (λ k. not (has used k))) where
    pub free_region : length layout ≤ f → lowest ≡ region_of layout f
    unfolding lowest_free
    free_region beyond = lowest_is ∙ lowest_alike most_regions _ _ (λ r h. ap not (so_far.in_use r h)) ∙ sym (unlisted layout f beyond)

pub kept_all : {layout regions : List ℕ} {f count used : ℕ} → f ≤ count → count ≤ f → Filling layout f regions used → Filling layout count regions used
kept_all {layout} {regions} {f} {count} {used} low high filling =
    let last : f ≡ count = omega arith in subst (λ (n : ℕ). Filling layout n regions used) last filling
