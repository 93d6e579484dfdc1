-- What a filled-in layout is: as long as asked, the regions in order, what is listed kept. It gives every function the region that the layout gives it.
use Prim.Native.Nat.{ℕ, zero, suc, ◌≤◌, ◌<◌}
use mathlib.Core.Path.{◌≡◌, refl, sym, ap, ◌∙◌, subst}
use mathlib.Core.List.{List, [], ◌∷◌, ◌++◌}
use native.Mathlib.Omega.{arith}
use lib.ListN.{length, get_or, length-append, get_or-append}
use lib.Seq.{get_or-append_seam}
use lib.Dec.{ltb}
use borrow.Author.Tests.{lt-ltb, le-ltb, ltb-true, ltb-false}
use Rattle.model.specs.Numbers.{table}
use Rattle.model.specs.Layouts.{lowest_free, next_region, filled_in, region_of}
use Rattle.model.proofs.Lists.{is_table}
use Rattle.model.proofs.Cases.{by_bool}

-- The empty layout, and two that leave out regions below what they list.
each_its_own : filled_in [] 3 ≡ 0 ∷ 1 ∷ 2 ∷ []
unfolding filled_in lowest_free Rattle.model.specs.Search.lowest_from
each_its_own = refl

lowest_first : filled_in (1 ∷ []) 3 ≡ 1 ∷ 0 ∷ 2 ∷ []
unfolding filled_in lowest_free Rattle.model.specs.Search.lowest_from
lowest_first = refl

between : filled_in (2 ∷ 0 ∷ 2 ∷ []) 6 ≡ 2 ∷ 0 ∷ 2 ∷ 1 ∷ 3 ∷ 4 ∷ []
unfolding filled_in lowest_free Rattle.model.specs.Search.lowest_from
between = refl

pub filled_length : (layout : List ℕ) (n : ℕ) → length (filled_in layout n) ≡ n
unfolding filled_in
filled_length layout zero = refl
filled_length layout (suc n) = length-append (filled_in layout n) _ ∙ omega (arith, filled_length layout n)

-- The regions of the first functions, in order.
pub filled_item : (layout : List ℕ) (n f : ℕ) → f < n → get_or (filled_in layout n) f 0 ≡ region_of layout f
unfolding filled_in region_of
filled_item layout zero f h = absurd (omega arith)
filled_item layout (suc n) f h =
    by_bool (ltb f n)
    (λ e. get_or-append (filled_in layout n) _ 0 f (omega (arith, ltb-true f n e, filled_length layout n)) ∙ filled_item layout n f (ltb-true f n e))
    (λ e.
    let q : f ≡ n = omega (arith, ltb-false f n e) in
    let long : length (filled_in layout n) ≡ f = filled_length layout n ∙ sym q in
    subst (λ (k : ℕ). get_or (filled_in layout n ++ (next_region layout n (filled_in layout n) ∷ [])) k 0 ≡ next_region layout f (filled_in layout f)) long
    (get_or-append_seam (filled_in layout n) _ [] 0 ∙ ap (λ (k : ℕ). next_region layout k (filled_in layout k)) (sym q)))

pub filled_table : (layout : List ℕ) (n : ℕ) → filled_in layout n ≡ table n (region_of layout)
filled_table layout n = is_table n (region_of layout) 0 (filled_in layout n) (filled_length layout n) (λ f h. filled_item layout n f h)

-- What a layout lists is kept.
pub listed : (layout : List ℕ) (f : ℕ) → f < length layout → region_of layout f ≡ get_or layout f 0
unfolding region_of
listed layout f h = rw (lt-ltb f (length layout) h)

-- A function beyond the layout's end has the lowest region that no earlier function has.
pub unlisted : (layout : List ℕ) (f : ℕ) → length layout ≤ f → region_of layout f ≡ lowest_free (filled_in layout f)
unfolding region_of
unlisted layout f h = rw (le-ltb f (length layout) h)

module _ (layout : List ℕ) (n : ℕ) (short : length layout ≤ n) where
  next_again : (f : ℕ) → filled_in (filled_in layout n) f ≡ filled_in layout f →
      next_region (filled_in layout n) f (filled_in (filled_in layout n) f) ≡ next_region layout f (filled_in layout f)
  unfolding region_of
  next_again f before =
      by_bool (ltb f n)
      (λ e. rw (filled_length layout n, e) (filled_item layout n f (ltb-true f n e)))
      (λ e. rw (filled_length layout n, e, before, le-ltb f (length layout) (omega (arith, ltb-false f n e))))

  -- Filling in a filled-in layout changes nothing.
  refilled : (f : ℕ) → filled_in (filled_in layout n) f ≡ filled_in layout f
  unfolding filled_in
  refilled zero = refl
  refilled (suc f) = λ i. refilled f i ++ (next_again f (refilled f) i ∷ [])

  -- A layout and its filled-in one give every function the same region.
  pub same_regions : region_of (filled_in layout n) ≡ region_of layout
  unfolding region_of
  same_regions = λ i f. next_again f (refilled f) i
