-- The functions of each region, gathered in one pass, and from them for each function the others of its region.
use Prim.Native.Nat.{ℕ, ◌+◌, ◌≤◌, ◌<◌}
use mathlib.Core.Path.{◌≡◌, sym, subst, ◌∙◌}
use mathlib.Core.List.{List}
use mathlib.Core.Logic.{◌⊎◌, inl, inr, ⊎_elim, ◌↔◌}
use native.Mathlib.Omega.{arith}
use lib.ListN.{length, get_or, set, replicate, length-set, length-replicate, get_or-replicate}
use lib.Seq.{get_or-set_same, get_or-set_other}
use lib.Dec.{eqb}
use borrow.Author.Tests.{eqb-true, eqb-false}
use borrow.Author.Count.{below_none, below_more}
use Rattle.model.specs.Layouts.{region_of}
use Rattle.model.specs.Results.{Member}
use Rattle.model.proofs.Cases.{by_bool}
use Rattle.bits.proofs.Bits.{none_in_zero}
use Rattle.rivals.specs.Rivals.{Members, RivalsBelow}
use Rattle.model.specs.Places as places
use Rattle.model.specs.Limits as limits

module _ (layout : List ℕ) where
  pub no_members : Members layout 0 (replicate limits.most_regions 0)
  no_members =
      record {
        long = length-replicate {A = ℕ} limits.most_regions 0;
        member = λ r g below. (
          λ m. absurd (none_in_zero g (subst (λ (w : ℕ). Member w g) (get_or-replicate limits.most_regions r 0 0 below) m)),
          λ m. absurd (omega arith),
        );
      }

  -- Function f goes to the word of its region.
  module _ (word : ℕ) {f region : ℕ} {ws : List ℕ} (members : Members layout f ws) (known : region < limits.most_regions) (region_is : region ≡ region_of layout f)
      (with : (b : ℕ) → Member word b ↔ ((b ≡ f) ⊎ Member (get_or ws region 0) b)) where
    pub one_member : Members layout (f + 1) (set ws region word)
    one_member = record { long = length-set ws region word ∙ members.long; member = member }
      where
        here : (g : ℕ) → Member word g ↔ ((g < f + 1) × (region_of layout g ≡ region))
        here g = (
          λ m. ⊎_elim (λ e. (omega arith, rw e (sym region_is))) (λ old. let (low, is) = (members.member region g known).0 old in (omega arith, is)) ((with g).0 m),
          λ (low, is). (with g).1 (by_bool (eqb g f) (λ t. inl (eqb-true g f t)) (λ n. inr ((members.member region g known).1 (omega (arith, eqb-false g f n), is)))),
        )

        there : (r g : ℕ) → r < limits.most_regions → (r ≡ region → ⊥) → Member (get_or ws r 0) g ↔ ((g < f + 1) × (region_of layout g ≡ r))
        there r g below other = (
          λ m. let (low, is) = (members.member r g below).0 m in (omega arith, is),
          λ (low, is).
              let ne : g ≡ f → ⊥ = λ e. other (sym is ∙ (rw e (sym region_is))) in
              (members.member r g below).1 (omega (arith, ne), is),
        )

        member : (r g : ℕ) → r < limits.most_regions → Member (get_or (set ws region word) r 0) g ↔ ((g < f + 1) × (region_of layout g ≡ r))
        member r g below =
            by_bool (eqb r region)
            (λ t. let same = eqb-true r region t in rw (same, get_or-set_same ws region word 0 (omega (arith, members.long))) (here g))
            (λ n. let other = eqb-false r region n in rw (get_or-set_other ws region r word 0 other) (there r g below other))

  pub all_members : {f n : ℕ} {ws : List ℕ} → Members layout f ws → f ≤ n → n ≤ f → Members layout n ws
  all_members {f} {n} {ws} members low high = let same : f ≡ n = omega arith in subst (λ (k : ℕ). Members layout k ws) same members

  module _ {n : ℕ} {rivals : List ℕ} where
    pub no_rivals : length rivals ≡ places.most_functions → RivalsBelow layout n 0 rivals
    no_rivals long = record { long = long; member = below_none _ }

    pub one_rival : (word : ℕ) {f region : ℕ} {ws : List ℕ} → RivalsBelow layout n f rivals → Members layout n ws →
        f < places.most_functions → region < limits.most_regions → region ≡ region_of layout f →
        ((b : ℕ) → Member word b ↔ ((f ≡ b → ⊥) × Member (get_or ws region 0) b)) →
        RivalsBelow layout n (f + 1) (set rivals f word)
    one_rival word {f} {region} so_far members small known region_is without =
        record {
          long = length-set rivals f word ∙ so_far.long;
          member = below_more _ f
              (λ k h. rw (get_or-set_other rivals f k word 0 (omega arith)) (so_far.member k h))
              (rw (get_or-set_same rivals f word 0 (omega (arith, so_far.long)), ← region_is) here);
        }
      where
        here : (g : ℕ) → Member word g ↔ ((f ≡ g → ⊥) × (g < n) × (region_of layout g ≡ region))
        here g = (
          λ m. let (ne, in_region) = (without g).0 m in let (low, is) = (members.member region g known).0 in_region in (ne, low, is),
          λ (ne, low, is). (without g).1 (ne, (members.member region g known).1 (low, is)),
        )

    pub all_rivals : {f : ℕ} → RivalsBelow layout n f rivals → f ≤ n → n ≤ f → RivalsBelow layout n n rivals
    all_rivals {f} so_far low high = let same : f ≡ n = omega arith in subst (λ (k : ℕ). RivalsBelow layout n k rivals) same so_far
