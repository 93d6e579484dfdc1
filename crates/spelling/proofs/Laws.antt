-- What the functions' proofs cite: a reading under way, the size of a number, and its bytes stored one by one.
use Prim.Native.Nat.{ℕ, zero, suc, ◌+◌, ◌-◌, ◌*◌, ◌/◌, ◌%◌, ◌^◌, ◌≤◌, ◌<◌, max}
use Rattle.std.specs.Prelude.{Err, Ok, Result}
use Rattle.model.specs.declared.Misread.{Misread}
use Rattle.model.specs.declared.Misread.TheVariants.{Misspelt}
use mathlib.Core.Path.{◌≡◌, refl, sym, ap, ◌∙◌}
use mathlib.Core.List.{List, [], ◌∷◌}
use mathlib.Core.Bool.{false}
use native.Mathlib.Omega.{arith}
use native.Mathlib.Nat.{mul-le-mul_right, pow-le-pow_right, pow-succ'}
use native.Mathlib.Numerals.{add-one}
use lib.ListN.{length, get_or, set}
use lib.Seq.{sets}
use Rattle.model.specs.Spelling.{Bytes, high_fifth, read_groups, read_number, groups, number_size, number_bytes}
use Rattle.model.proofs.Cases.{by_less}
use Rattle.spelling.proofs.Reading.{Reading, reading, is_read}

-- A reading of the number at `at` that has come to `pos`: what is left to read decides the answer.
pub record Underway (s : List ℕ) (at l pos u v : ℕ) : Type 0 where
  pub few : l ≤ 5
  pub unit : u ≡ 128 ^ (5 - l)
  pub below : v < u
  pub same : read_groups l s pos u v ≡ read_number s at

group_below : (b u v : ℕ) → b < 128 → v < u → v + b * u < u * 128
group_below b u v h k = omega (arith, mul-le-mul_right {m = b} {n = 127} u (omega arith))

module _ {s : List ℕ} {at l pos u v : ℕ} (r : Underway s at l pos u v) (go : 0 < l) where
  -- Any turn that the reading takes leads to the number's answer.
  pub answers : {n : Result (ℕ × ℕ) Misread} → Reading s (suc (l - 1)) pos u v n → n ≡ read_number s at
  answers d = let e : suc (l - 1) ≡ l = omega arith in sym (rw e at (is_read d)) ∙ r.same

  pub unit_small : u ≤ 268435456
  unit_small = omega (arith, pow-le-pow_right {n = 128} (omega arith) {i = 5 - l} {j = 4} (omega arith))

  pub group_small : (b : ℕ) → b < 128 → v + b * u < 34359738368
  group_small b h = omega (arith, group_below b u v h r.below, unit_small)

  -- A byte with its high bit set leaves the reading under way.
  pub goes_on : pos < length s → high_fifth (l - 1) (get_or s pos 0) ≡ false → 128 ≤ get_or s pos 0 → get_or s pos 0 < 256 →
      Underway s at (l - 1) (pos + 1) (u * 128) (v + (get_or s pos 0 - 128) * u)
  goes_on h e k byte =
      let left : 5 - (l - 1) ≡ suc (5 - l) = omega arith in
      record {
        few = omega arith;
        unit = omega (arith, ap (λ (n : ℕ). 128 ^ n) left, pow-succ' 128 (5 - l));
        below = group_below (get_or s pos 0 - 128) u v (omega arith) r.below;
        same = answers (Reading.more h e k (reading (l - 1) s (pos + 1) (u * 128) (v + (get_or s pos 0 - 128) * u)));
      }

-- After five bytes with their high bit set there is no number.
pub runs_out : {s : List ℕ} {at l pos u v : ℕ} → Underway s at l pos u v → l ≤ 0 → (Err Misspelt) ≡ read_number s at
unfolding read_groups
runs_out {l = l} r h = let e : l ≡ 0 = omega arith in rw e at r.same

-- A byte below 128 is a number.
pub one_byte : (s : List ℕ) (at : ℕ) → at < length s → get_or s at 0 < 128 → read_number s at ≡ Ok ((get_or s at 0), (at + 1))
one_byte s at h k =
    let same : 0 + get_or s at 0 * 1 ≡ get_or s at 0 = omega arith in
    is_read (Reading.last h refl k) ∙ ap (λ (v : ℕ). Ok (v, (at + 1))) same

-- What holds of a size follows from the size's range: `n` groups are too few, or the number has but one, and one more is enough.
pub by_size : (P : ℕ → Type 0) (v : ℕ) →
    ((n : ℕ) → n ≤ 4 → 128 ^ n ≤ max v 1 → (v < 34359738368 → v < 128 ^ suc n) → P (suc n)) → P (number_size v)
unfolding number_size
by_size P v f =
    by_less P v 128 (λ a. f 0 (omega arith) (omega arith) (λ _. a))
    (λ a. by_less P v 16384 (λ b. f 1 (omega arith) (omega arith) (λ _. b))
    (λ b. by_less P v 2097152 (λ c. f 2 (omega arith) (omega arith) (λ _. c))
    (λ c. by_less P v 268435456 (λ d. f 3 (omega arith) (omega arith) (λ _. d))
    (λ d. f 4 (omega arith) (omega arith) (λ e. e)))))

pub size_pos : (v : ℕ) → 1 ≤ number_size v
size_pos v = by_size (λ n. 1 ≤ n) v (λ n h a b. omega arith)

pub size_five : (v : ℕ) → number_size v ≤ 5
size_five v = by_size (λ n. n ≤ 5) v (λ n h a b. omega arith)

pub groups_length : (n v : ℕ) → length (groups n v) ≡ n
unfolding groups
groups_length zero v = refl
groups_length (suc zero) v = refl
groups_length (suc (suc n)) v = ap suc (groups_length (suc n) (v / 128))

-- Each group is a byte.
pub groups_bytes : (n v : ℕ) → Bytes (groups n v)
unfolding groups
groups_bytes zero v i = omega arith
groups_bytes (suc zero) v zero = omega arith
groups_bytes (suc zero) v (suc i) = omega arith
groups_bytes (suc (suc n)) v zero = omega arith
groups_bytes (suc (suc n)) v (suc i) = groups_bytes (suc n) (v / 128) i

pub bytes_length : (v : ℕ) → length (number_bytes v) ≡ number_size v
bytes_length v = groups_length (number_size v) v

-- All groups, with `last` the place of the last one; one more byte stored, and the groups that are left; and the last one.
module _ (buf : List ℕ) where
  pub write_start : (at last v : ℕ) → last + 1 ≡ at + number_size v → sets buf at (groups (suc (last - at)) v) ≡ sets buf at (number_bytes v)
  write_start at last v e = let s : suc (last - at) ≡ number_size v = omega (arith, size_pos v) in rw s

  pub write_turn : (at last v : ℕ) → at < last → sets (set buf at (128 + v % 128)) (at + 1) (groups (suc (last - (at + 1))) (v / 128)) ≡ sets buf at (groups (suc (last - at)) v)
  unfolding groups
  write_turn at last v h = let e : last - at ≡ suc (last - (at + 1)) = omega arith in rw (e, add-one at)

  pub write_last : (at last v : ℕ) → last ≡ at → set buf last (v % 128) ≡ sets buf at (groups (suc (last - at)) v)
  unfolding groups
  write_last at last v e = let z : last - at ≡ 0 = omega arith in rw (z, e)

-- 300 is AC 02.
three_hundred : number_bytes 300 ≡ 172 ∷ 2 ∷ []
unfolding number_size groups
three_hundred = refl
