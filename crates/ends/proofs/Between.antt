-- A bit of a word between two numbers, found by shifting the others out.
use Prim.Native.Nat.{ℕ, ◌+◌, ◌-◌, ◌*◌, ◌/◌, ◌%◌, ◌^◌, ◌≤◌, ◌<◌}
use mathlib.Core.Path.{◌≡◌, sym, ap, ◌∙◌}
use mathlib.Core.Bool.{Bool, true, false, not, ◌&&◌}
use native.Mathlib.Omega.{arith}
use native.Mathlib.Nat.{mod-lt, mul-mod_left, add-zero, zero-add, pow-le-pow_right}
use lib.Dec.{eqb, leb}
use lib.Pow.{pow_pos, shl-shr, shr-shr, shr_lt, mod-pow-add, field, mod-mod-pow}
use borrow.Author.Tests.{eqb-true, eqb-false, le-leb, lt-leb}
use Rattle.model.specs.Search.{exists_below}
use Rattle.model.proofs.Cases.{by_bool, by_order, true_not_false}
use Rattle.model.proofs.Search.{exists_at, exists_nowhere}
use Rattle.bits.specs.Tests.{has}
use Rattle.bits.proofs.Tests.{has_zero, some_bit}
use Rattle.ends.specs.Sets.{half}

-- What is left of a word whose bits from `to` on and below `from` are shifted out.
kept : (w from s to : ℕ) → (w * 2 ^ s) % 2 ^ (to + s) / 2 ^ (s + from) ≡ w % 2 ^ to / 2 ^ from
kept w from s to =
    let low : (w * 2 ^ s) % 2 ^ (to + s) ≡ (w % 2 ^ to) * 2 ^ s =
    mod-pow-add (w * 2 ^ s) to s ∙ rw (shl-shr w s, mul-mod_left w (2 ^ s)) (add-zero ((w % 2 ^ to) * 2 ^ s))
    in
    rw (low, ← shr-shr ((w % 2 ^ to) * 2 ^ s) s from, shl-shr (w % 2 ^ to) s)

-- The bits of a word that stand below `to`.
has_low : (w d v : ℕ) → has (w % 2 ^ (d + 1 + v)) v ≡ has w v
unfolding has
has_low w d v =
    let same : w % 2 ^ (d + 1 + v) / 2 ^ v % 2 ≡ w / 2 ^ v % 2 = rw (field w (d + 1) v) (mod-mod-pow (w / 2 ^ v) d 1) in
    ap (λ (x : ℕ). eqb x 1) same

module _ (w to v : ℕ) where
  has_below : v < to → has (w % 2 ^ to) v ≡ has w v
  has_below h = let e : to - v - 1 + 1 + v ≡ to = omega arith in rw e at (has_low w (to - v - 1) v)

  has_past : to ≤ v → has (w % 2 ^ to) v ≡ false
  unfolding has
  has_past h =
      let small : w % 2 ^ to < 2 ^ v = omega (arith, mod-lt w (pow_pos to), pow-le-pow_right {n = 2} (omega arith) h) in
      let e : w % 2 ^ to / 2 ^ v ≡ 0 = omega (arith, shr_lt {n = w % 2 ^ to} 0 v (rw zero-add small)) in
      rw e

-- Bit k of what is left stands for bit from + k.
has_kept : (w from to k : ℕ) → has (w % 2 ^ to / 2 ^ from) k ≡ has (w % 2 ^ to) (from + k)
unfolding has
has_kept w from to k = rw (shr-shr (w % 2 ^ to) from k)

module _ (w from to : ℕ) where
  abbrev between : ℕ → Bool
  between v = leb from v && has w v

  abbrev left : ℕ
  left = w % 2 ^ to / 2 ^ from

  left_some : (left ≡ 0 → ⊥) → exists_below to between ≡ true
  left_some ne =
      let r = some_bit left ne in
      let bit : has (w % 2 ^ to) (from + r.0) ≡ true = sym (has_kept w from to r.0) ∙ r.1 in
      by_order (from + r.0) to
      (λ h. exists_at to between (from + r.0) h (rw (le-leb from (from + r.0) (omega arith)) (sym (has_below w to (from + r.0) h) ∙ bit)))
      (λ h. true_not_false (sym bit ∙ has_past w to (from + r.0) h))

  left_none : left ≡ 0 → exists_below to between ≡ false
  left_none z = exists_nowhere to between (λ v h. by_order v from
      (λ low. rw (lt-leb from v low))
      (λ high.
      let e : from + (v - from) ≡ v = omega arith in
      let bit : has (w % 2 ^ to) v ≡ has 0 (v - from) = rw e at (sym (has_kept w from to (v - from))) ∙ ap (λ (x : ℕ). has x (v - from)) z in
      rw (le-leb from v high) (sym (has_below w to v h) ∙ (bit ∙ has_zero (v - from)))))

  pub shifted_out : from < to → to ≤ half → not (eqb ((w * 2 ^ (half - to)) % 2 ^ half / 2 ^ (half - to + from)) 0) ≡ exists_below to between
  shifted_out h le =
      let e : to + (half - to) ≡ half = omega arith in
      let is : (w * 2 ^ (half - to)) % 2 ^ half / 2 ^ (half - to + from) ≡ left = rw e at (kept w from (half - to) to) in
      by_bool (eqb left 0)
      (λ z. rw (is, z) (sym (left_none (eqb-true left 0 z))))
      (λ z. rw (is, z) (sym (left_some (eqb-false left 0 z))))

  pub empty_between : to ≤ from → false ≡ exists_below to between
  empty_between h = sym (exists_nowhere to between (λ v lt. rw (lt-leb from v (omega arith))))
