-- There is always a free region: what a function beyond the layout's end gets is one of the regions, no other function has it, and the next gets a higher one.
use Prim.Native.Nat.{ℕ, zero, suc, ◌≤◌, ◌<◌}
use mathlib.Core.Path.{◌≡◌, sym, ap, ◌∙◌}
use mathlib.Core.List.Memᴰ
use mathlib.Core.List.{List, [], ◌∷◌, Memᴰ}
use mathlib.Core.Bool.{true, false, cond, not}
use native.Mathlib.Omega.{arith}
use lib.ListN.{length, get_or}
use lib.Dec.{eqb}
use borrow.Author.Tests.{eqb-true, eqb-false, ne_eqb, ltb-true, not-true, not-false}
use Rattle.model.specs.Limits.{most_regions}
use Rattle.model.specs.Search.{exists_below}
use Rattle.model.specs.Layouts.{taken, lowest_free, filled_in, region_of}
use Rattle.model.proofs.Search.{some_below, none_below, below_lowest, lowest_passes}
use Rattle.model.proofs.Lists.{mem-get_or}
use Rattle.model.proofs.Cases.{by_bool, by_order, by_same}
use Rattle.filled.proofs.Filled.{filled_length, filled_item, unlisted}

-- A list without the first occurrence of a number.
unfoldable remove : ℕ → List ℕ → List ℕ
remove x [] = []
remove x (y ∷ ys) = cond (eqb x y) ys (y ∷ remove x ys)

remove_shorter : (x : ℕ) (rs : List ℕ) → Memᴰ x rs → suc (length (remove x rs)) ≡ length rs
unfolding remove
remove_shorter x (y ∷ ys) m =
    by_bool (eqb x y) (λ e. rw e) (λ e. rw e (ap suc (remove_shorter x ys (further m (eqb-false x y e)))))
  where
    further : Memᴰ x (y ∷ ys) → (x ≡ y → ⊥) → Memᴰ x ys
    further (Memᴰ.head q) ne = absurd (ne q)
    further (Memᴰ.tail t) ne = t
remove_shorter x [] m = elim m [ ]

remove_keeps : (x r : ℕ) (rs : List ℕ) → Memᴰ r rs → (x ≡ r → ⊥) → Memᴰ r (remove x rs)
unfolding remove
remove_keeps x r (y ∷ ys) (Memᴰ.head q) ne = rw (ne_eqb x y (λ z. ne (z ∙ sym q))) (Memᴰ.head q)
remove_keeps x r (y ∷ ys) (Memᴰ.tail t) ne =
    by_bool (eqb x y) (λ e. rw e t) (λ e. rw e (Memᴰ.tail (remove_keeps x r ys t ne)))
remove_keeps x r [] x3 ne = elim x3 [ ]

-- A list that has every number below n has n items.
covers : (n : ℕ) (rs : List ℕ) → ((r : ℕ) → r < n → Memᴰ r rs) → n ≤ length rs
covers zero rs all = omega arith
covers (suc n) rs all =
    omega (
      arith,
      remove_shorter n rs (all n (omega arith)),
      covers n (remove n rs) (λ r h. remove_keeps n r rs (all r (omega arith)) (λ q. omega arith)),
    )

has_region : (rs : List ℕ) (r : ℕ) → taken rs r ≡ true → Memᴰ r rs
has_region rs r e =
    let (g, below, is) = some_below (length rs) (λ g. eqb r (get_or rs g 0)) e in
    Memᴰ.cast (eqb-true r (get_or rs g 0) is) (mem-get_or rs g 0 below)

-- Fewer functions than regions leave a region free.
module _ (rs : List ℕ) (few : length rs < most_regions) where
  some_free : exists_below most_regions (λ r. not (taken rs r)) ≡ true
  some_free =
      by_bool (exists_below most_regions (λ r. not (taken rs r))) (λ e. e)
      (λ e.
      absurd (omega (
        arith,
        covers most_regions rs (λ r h. has_region rs r (not-false (taken rs r) (none_below most_regions (λ r. not (taken rs r)) e r h))),
      )))

  free_known : lowest_free rs < most_regions
  unfolding lowest_free
  free_known = ltb-true _ most_regions some_free

  -- The regions below the lowest free one are taken.
  passed_over : (r : ℕ) → r < lowest_free rs → taken rs r ≡ true
  unfolding lowest_free
  passed_over r below = not-false (taken rs r) (below_lowest most_regions (λ r. not (taken rs r)) r (omega (arith, free_known)) below)

  free_alone : taken rs (lowest_free rs) ≡ false
  unfolding lowest_free
  free_alone = not-true _ (lowest_passes most_regions (λ r. not (taken rs r)) some_free)

-- A function beyond the layout's end.
module _ (layout : List ℕ) (f : ℕ) (beyond : length layout ≤ f) (few : f < most_regions) where
  short : length (filled_in layout f) < most_regions
  short = omega (arith, filled_length layout f)

  -- It has one of the regions.
  pub unlisted_known : region_of layout f < most_regions
  unlisted_known = rw (unlisted layout f beyond) (free_known (filled_in layout f) short)

  not_earlier : (g : ℕ) → g < f → region_of layout g ≡ region_of layout f → ⊥
  not_earlier g below same =
      let free =
      none_below (length (filled_in layout f)) (λ g. eqb (lowest_free (filled_in layout f)) (get_or (filled_in layout f) g 0)) (free_alone (filled_in layout f) short) g
      (omega (arith, filled_length layout f)) in
      eqb-false _ _ free (sym (filled_item layout f g below ∙ same ∙ unlisted layout f beyond))

-- No other function has its region.
pub unlisted_alone : (layout : List ℕ) (f g : ℕ) → length layout ≤ f → f < most_regions → g < most_regions → region_of layout g ≡ region_of layout f → g ≡ f
unlisted_alone layout f g beyond few few' same =
    by_order g f (λ lower. absurd (not_earlier layout f beyond few g lower same))
    (λ not_lower.
    by_order f g (λ higher. absurd (not_earlier layout g (omega arith) few' f higher (sym same))) (λ not_higher. omega arith))

-- Functions beyond the layout's end have ascending regions.
pub unlisted_ascend : (layout : List ℕ) (f g : ℕ) → length layout ≤ f → f < g → g < most_regions → region_of layout f < region_of layout g
unlisted_ascend layout f g beyond later few =
    by_order (region_of layout f) (region_of layout g) (λ lower. lower)
    (λ not_lower.
    by_same (region_of layout g) (region_of layout f)
    (λ same. absurd (omega (arith, unlisted_alone layout f g beyond (omega arith) few same)))
    (λ other.
    let free_then = unlisted layout f beyond in
    let (h, below, is) = some_below _ _ (passed_over (filled_in layout f) (omega (arith, filled_length layout f)) (region_of layout g) (omega arith)) in
    let earlier : h < f = omega (arith, filled_length layout f) in
    absurd (not_earlier layout g (omega arith) few h (omega arith) (sym (filled_item layout f h earlier) ∙ sym (eqb-true _ _ is)))))
