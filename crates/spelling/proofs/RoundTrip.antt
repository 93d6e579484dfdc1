-- The spellings of a number that are read: its groups, as many as it needs or more, up to five. What is written is the shortest of them.
use Prim.Native.Nat.{ℕ, zero, suc, ◌+◌, ◌-◌, ◌*◌, ◌/◌, ◌%◌, ◌^◌, ◌≤◌, ◌<◌, max}
use Rattle.std.specs.Prelude.{Ok}
use mathlib.Core.Path.{◌≡◌, refl, sym, ap, ◌∙◌}
use mathlib.Core.List.{List, [], ◌∷◌, ◌++◌}
use mathlib.Core.Bool.{false}
use native.Mathlib.Omega.{arith}
use native.Mathlib.Nat.{mul_assoc, mul_comm, add-mul, one-le-pow, pow-le-pow_right, pow-succ', mod-eq_of_lt, lt_of_not-le}
use native.Mathlib.Numerals.{add-one}
use lib.ListN.{length, get_or, drop, length-append}
use lib.Seq.{get_or-append_seam, append_snoc, drop-cons}
use borrow.Author.Tests.{lt-ltb, le-ltb, ne_eqb, ltb-false}
use Rattle.model.specs.Spelling.{Bytes, high_fifth, read_groups, read_number, groups, number_size, number_bytes}
use Rattle.spelling.proofs.Reading.{Reading, reading}
use Rattle.spelling.proofs.Laws.{by_size, size_pos, size_five}

-- `v` in one group and `n` more, as it may be read where at most `l` bytes follow the first: no fifth byte above 15.
record Spells (n l v : ℕ) : Type 0 where
  few : n ≤ l
  below : v < 128 ^ suc n
  short : v < 16 * 128 ^ l

spells_down : (n l v : ℕ) → l ≤ 3 → Spells (suc n) (suc l) v → Spells n l (v / 128)
spells_down n l v room t = omega (arith, pow-succ' 128 n, pow-succ' 128 (suc n), pow-succ' 128 l, one-le-pow n 128 (omega arith))

spells_up : (n l g v : ℕ) → l ≤ 3 → g < 128 → Spells n l v → Spells (suc n) (suc l) (g + 128 * v)
spells_up n l g v room h t = omega (arith, pow-succ' 128 n, pow-succ' 128 (suc n), pow-succ' 128 l, one-le-pow n 128 (omega arith))

-- A lowest group and the groups above it.
two_parts : (g v u : ℕ) → g * u + v * (u * 128) ≡ (g + 128 * v) * u
two_parts g v u = rw (add-mul g (128 * v) u, mul_comm u 128, ← mul_assoc v 128 u, mul_comm v 128)

-- What the test of a fifth byte says of the number, both ways.
fifth_low : (l b : ℕ) → b < 16 * 128 ^ l → high_fifth l b ≡ false
fifth_low zero b h = simp (le-ltb 15 b (omega arith))
fifth_low (suc l) b h = simp (ne_eqb (suc l) 0 (omega arith))

low_fifth : (l b : ℕ) → b < 128 → high_fifth l b ≡ false → b < 16 * 128 ^ l
low_fifth zero b h e = omega (arith, ltb-false 15 b e)
low_fifth (suc l) b h e = omega (arith, pow-succ' 128 l, one-le-pow l 128 (omega arith))

seam_below : (pre : List ℕ) (b : ℕ) (rest : List ℕ) → length pre < length (pre ++ (b ∷ rest))
seam_below pre b rest = simp length-append (omega arith)

read_groups_lem : (n l : ℕ) (pre post : List ℕ) (v u w : ℕ) → l ≤ 4 → Spells n l v →
    read_groups (suc l) (pre ++ (groups (suc n) v ++ post)) (length pre) u w ≡ Ok ((w + v * u), (length pre + suc n))
unfolding read_groups groups
read_groups_lem zero l pre post v u w room t =
    let m : v % 128 ≡ v = omega arith in
    simp (
      m,
      lt-ltb _ _ (seam_below pre v post),
      get_or-append_seam pre v post 0,
      fifth_low l v t.short,
      lt-ltb v 128 (omega arith),
    )
read_groups_lem (suc n) zero pre post v u w room t = absurd (omega arith)
read_groups_lem (suc n) (suc l) pre post v u w room t =
    let b : ℕ = 128 + v % 128 in
    let rest : List ℕ = groups (suc n) (v / 128) ++ post in
    let lower = read_groups_lem n l (pre ++ (b ∷ [])) post (v / 128) (u * 128) (w + v % 128 * u) (omega arith) (spells_down n l v (omega arith) t) in
    let high : b - 128 ≡ v % 128 = omega arith in
    let at : length (pre ++ (b ∷ [])) ≡ length pre + 1 = length-append pre (b ∷ []) in
    let whole : v % 128 + 128 * (v / 128) ≡ v = omega arith in
    let value : w + v % 128 * u + v / 128 * (u * 128) ≡ w + v * u = omega (arith, rw whole at (two_parts (v % 128) (v / 128) u)) in
    let next : length pre + 1 + suc n ≡ length pre + suc (suc n) = omega arith in
    simp (lt-ltb _ _ (seam_below pre b rest), get_or-append_seam pre b rest 0, ne_eqb (suc l) 0 (omega arith), le-ltb b 128 (omega arith), high)
    (simp (append_snoc, at, value, next) at lower)

-- A number below what `m` and one more groups hold needs no more groups.
no_longer : (m n v : ℕ) → v < 128 ^ suc m → 128 ^ n ≤ max v 1 → n < suc m
no_longer m n v h k =
    lt_of_not-le (λ less. omega (arith, pow-le-pow_right {n = 128} (omega arith) less, pow-succ' 128 m, one-le-pow m 128 (omega arith)))

-- A number has no more groups than it needs, and fits as many as it needs or more.
size_least : (n v : ℕ) → v < 128 ^ suc n → number_size v ≤ suc n
size_least n v h = by_size (λ k. k ≤ suc n) v (λ m few top below. no_longer n m v h top)

fits : (v n : ℕ) → number_size v ≤ suc n → v < 4294967296 → v < 128 ^ suc n
fits v n =
    by_size (λ k. k ≤ suc n → v < 4294967296 → v < 128 ^ suc n) v
    (λ m few top below le small. omega (arith, below (omega arith), pow-le-pow_right {n = 128} (omega arith) {i = suc m} {j = suc n} (omega arith)))

-- Any spelling of a number in up to five groups is read as the number.
pub read_padded : (pre post : List ℕ) (v k : ℕ) → v < 4294967296 → number_size v ≤ k → k ≤ 5 →
    read_number (pre ++ (groups k v ++ post)) (length pre) ≡ Ok (v, (length pre + k))
read_padded pre post v zero small enough few = absurd (omega (arith, size_pos v))
read_padded pre post v (suc n) small enough few =
    let one : v * 1 ≡ v = omega arith in
    let none : 0 + v ≡ v = omega arith in
    simp (one, none) at (read_groups_lem n 4 pre post v 1 0 (omega arith) (record { few = omega arith; below = fits v n enough small; short = omega arith }))

-- What is written reads back as itself.
pub round_trip : (pre post : List ℕ) (v : ℕ) → v < 4294967296 → read_number (pre ++ (number_bytes v ++ post)) (length pre) ≡ Ok (v, (length pre + number_size v))
round_trip pre post v small = read_padded pre post v (number_size v) small (omega arith) (size_five v)

-- What an accepted spelling was: the bytes that were read are groups of the number.
record Spelt (l : ℕ) (s : List ℕ) (at u w x next : ℕ) : Type 0 where
  n : ℕ
  v : ℕ
  value : x ≡ w + v * u
  ends : next ≡ at + suc n
  bytes : drop at s ≡ groups (suc n) v ++ drop next s
  spells : Spells n l v

spelt_last : (s : List ℕ) (l at u w : ℕ) → at < length s → high_fifth l (get_or s at 0) ≡ false → get_or s at 0 < 128 →
    Spelt l s at u w (w + get_or s at 0 * u) (at + 1)
unfolding groups
spelt_last s l at u w h e k =
    record {
      n = 0;
      v = get_or s at 0;
      value = refl;
      ends = refl;
      bytes = rw (add-one at, mod-eq_of_lt k) (drop-cons s at 0 h);
      spells = record { few = omega arith; below = k; short = low_fifth l (get_or s at 0) k e };
    }

spelt_more : (s : List ℕ) (l at u w x next : ℕ) → l ≤ 3 → at < length s → 128 ≤ get_or s at 0 → get_or s at 0 < 256 →
    Spelt l s (at + 1) (u * 128) (w + (get_or s at 0 - 128) * u) x next → Spelt (suc l) s at u w x next
unfolding groups
spelt_more s l at u w x next room h k byte r =
    let g : ℕ = get_or s at 0 - 128 in
    let v : ℕ = g + 128 * r.v in
    let hi : v / 128 ≡ r.v = omega arith in
    let lo : 128 + v % 128 ≡ get_or s at 0 = omega arith in
    record {
      n = suc r.n;
      v = v;
      value = r.value ∙ omega (arith, two_parts g r.v u);
      ends = r.ends ∙ omega arith;
      bytes = drop-cons s at 0 h ∙ rw (hi, lo, ← add-one at) (ap (λ (t : List ℕ). get_or s at 0 ∷ t) r.bytes);
      spells = spells_up r.n l g r.v room (omega arith) r.spells;
    }

-- An accepted spelling of v: its groups, as many as it needs or more, up to five.
pub record Spelling (s : List ℕ) (at v next : ℕ) : Type 0 where
  pub small : v < 4294967296
  pub size : ℕ
  pub enough : number_size v ≤ size
  pub few : size ≤ 5
  pub ends : next ≡ at + size
  pub bytes : drop at s ≡ groups size v ++ drop next s

module _ (s : List ℕ) (byte : Bytes s) where
  spelt : (l : ℕ) {at u w x next : ℕ} → l ≤ 4 → Reading s (suc l) at u w (Ok (x, next)) → Spelt l s at u w x next
  spelt l {at} {u} {w} room (Reading.last h e k) = spelt_last s l at u w h e k
  spelt zero {at} room (Reading.more h e k r) = absurd (omega (arith, ltb-false 15 (get_or s at 0) e))
  spelt (suc l) {at} {u} {w} {x} {next} room (Reading.more h e k r) =
      spelt_more s l at u w x next (omega arith) h k (byte at) (spelt l (omega arith) r)

  pub spelling : (at v next : ℕ) → read_number s at ≡ Ok (v, next) → Spelling s at v next
  spelling at v next q =
      let r : Spelt 4 s at 1 0 v next = spelt 4 (omega arith) (rw q at (reading 5 s at 1 0)) in
      let is : v ≡ r.v = r.value ∙ omega arith in
      record {
        small = omega (arith, r.spells.short);
        size = suc r.n;
        enough = size_least r.n v (omega (arith, r.spells.below));
        few = omega (arith, r.spells.few);
        ends = r.ends;
        bytes = r.bytes ∙ ap (λ (x : ℕ). groups (suc r.n) x ++ drop next s) (sym is);
      }

  -- The shortest accepted spelling is the one that is written.
  pub shortest_spelling : (at v next : ℕ) → read_number s at ≡ Ok (v, next) → next ≡ at + number_size v → drop at s ≡ number_bytes v ++ drop next s
  shortest_spelling at v next q e =
      let r : Spelling s at v next = spelling at v next q in
      let same : r.size ≡ number_size v = omega (arith, r.ends) in
      rw same at r.bytes
