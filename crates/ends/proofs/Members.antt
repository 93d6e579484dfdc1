-- The vertices of a set: those of either word, and one more.
use Prim.Native.Nat.{ℕ, ◌+◌, ◌-◌, ◌*◌, ◌%◌, ◌^◌, ◌≤◌, ◌<◌}
use mathlib.Core.Path.{◌≡◌, refl, sym, ap, ◌∙◌}
use mathlib.Core.Bool.{Bool, true, false, ◌&&◌, ◌||◌, or-false}
use native.Mathlib.Omega.{arith}
use native.Mathlib.Nat.{one-mul, mod-eq_of_lt}
use lib.Dec.{eqb, leb}
use lib.Pow.{pow-lt}
use borrow.Author.Tests.{eq-eqb, ne_eqb, eqb-true, eqb-false, lt-ltb, le-ltb, le-leb, lt-leb}
use Rattle.model.specs.Search.{exists_below}
use Rattle.model.proofs.Cases.{by_bool, by_order}
use Rattle.model.proofs.Search.{some_below, none_below, exists_at, exists_nowhere}
use Rattle.bits.specs.Tests.{has}
use Rattle.bits.proofs.Tests.{has_or, has_zero, has_pow}
use Rattle.ends.specs.declared.Ends.{Ends}
use Rattle.ends.specs.Sets.{half, no_ends, with_end, has_end, ends_between}

pub one_shl : (g : ℕ) → g < half → (1 * 2 ^ g) % 2 ^ half ≡ 2 ^ g
one_shl g h = ap (λ (x : ℕ). x % 2 ^ half) (one-mul (2 ^ g)) ∙ mod-eq_of_lt (pow-lt h)

-- Two tests that agree below n.
exists_same : (n : ℕ) (test other : ℕ → Bool) → ((i : ℕ) → i < n → test i ≡ other i) → exists_below n test ≡ exists_below n other
exists_same n test other same =
    by_bool (exists_below n test)
    (λ e. let r = some_below n test e in e ∙ sym (exists_at n other r.0 r.1 (sym (same r.0 r.1) ∙ r.2)))
    (λ e. e ∙ sym (exists_nowhere n other (λ i h. sym (same i h) ∙ none_below n test e i h)))

module _ (e : Ends) (from to : ℕ) where
  abbrev low : ℕ → Bool
  low v = leb from v && has e.low v

  abbrev high : ℕ → Bool
  high v = leb (from - half) v && has e.high v

  abbrev both : ℕ → Bool
  both v = leb from v && has_end e v

  at_low : (v : ℕ) → v < half → low v ≡ both v
  unfolding has_end
  at_low v h = rw (lt-ltb v half h)

  at_high : (v : ℕ) → high v ≡ both (half + v)
  unfolding has_end
  at_high v =
      let e : half + v - half ≡ v = omega arith in
      rw (le-ltb (half + v) half (omega arith), e, shifted)
    where
      shifted : leb (from - half) v ≡ leb from (half + v)
      shifted =
          by_order (half + v) from
          (λ h. rw (lt-leb (from - half) v (omega arith), lt-leb from (half + v) h))
          (λ h. rw (le-leb (from - half) v (omega arith), le-leb from (half + v) h))

  -- Where the range ends in the low word, and where it goes on into the high one.
  pub in_low : to ≤ half → exists_below to low ≡ ends_between e from to
  unfolding ends_between
  in_low h = exists_same to low both (λ v lt. at_low v (omega arith))

  pub found_low : half ≤ to → exists_below half low ≡ true → true ≡ ends_between e from to
  unfolding ends_between
  found_low h is =
      let r = some_below half low is in
      sym (exists_at to both r.0 (omega (arith, r.1)) (sym (at_low r.0 r.1) ∙ r.2))

  then_in_high : half ≤ to → exists_below half low ≡ false → exists_below (to - half) high ≡ ends_between e from to
  unfolding ends_between
  then_in_high h none =
      by_bool (exists_below (to - half) high)
      (λ is. let r = some_below (to - half) high is in is ∙ sym (exists_at to both (half + r.0) (omega (arith, r.1)) (sym (at_high r.0) ∙ r.2)))
      (λ is.
      is
      ∙ sym (exists_nowhere to both (λ v lt. by_order v half
      (λ under. sym (at_low v under) ∙ none_below half low none v under)
      (λ over.
      let e : half + (v - half) ≡ v = omega arith in
      rw e at (sym (at_high (v - half)) ∙ none_below (to - half) high is (v - half) (omega arith))))))

  pub then_high : half ≤ to → exists_below half low ≡ false → {at : ℕ} → at ≡ from - half →
      exists_below (to - half) (λ v. leb at v && has e.high v) ≡ ends_between e from to
  then_high h none is = rw is (then_in_high h none)

-- A set of no vertices, and one with one vertex more.
pub none_ends : (v : ℕ) → has_end no_ends v ≡ false
unfolding has_end
none_ends v = by_order v half (λ h. rw (lt-ltb v half h) (has_zero v)) (λ h. rw (le-ltb v half h) (has_zero (v - half)))

pub one_end : (e : Ends) (last v : ℕ) → has_end (with_end e last) v ≡ (has_end e v || eqb v last)
unfolding has_end with_end
one_end e last v =
    by_order last half
    (λ small. by_order v half
    (λ h. rw (lt-ltb last half small, lt-ltb v half h, has_or e.low (2 ^ last) v, has_pow last v))
    (λ h. rw (lt-ltb last half small, le-ltb v half h, ne_eqb v last (λ q. omega arith)) (sym (or-false (has e.high (v - half))))))
    (λ large. by_order v half
    (λ h. rw (le-ltb last half large, lt-ltb v half h, ne_eqb v last (λ q. omega arith)) (sym (or-false (has e.low v))))
    (λ h.
    rw (le-ltb last half large, le-ltb v half h, has_or e.high (2 ^ (last - half)) (v - half), has_pow (last - half) (v - half), shifted large h)))
  where
    shifted : half ≤ last → half ≤ v → eqb (v - half) (last - half) ≡ eqb v last
    shifted l h =
        by_bool (eqb v last)
        (λ q. rw q (eq-eqb (v - half) (last - half) (omega (arith, eqb-true v last q))))
        (λ q. rw q (ne_eqb (v - half) (last - half) (λ p. eqb-false v last q (omega arith))))
