-- A text copied, digits stored one by one from the last, and one part written behind another.
use Prim.Native.Nat.{ℕ, zero, suc, ◌+◌, ◌-◌, ◌/◌, ◌%◌, ◌≤◌, ◌<◌}
use native.Mathlib.Omega.{arith}
use mathlib.Core.Path.{◌≡◌, refl, sym, ap, ◌∙◌}
use mathlib.Core.List.{List, [], ◌∷◌, ◌++◌}
use lib.ListN.{length, set, take, drop, length-append, length-set}
use borrow.Rule.Slice.PartMut.{put_mid}
use Rattle.std.proofs.lemmas.Slice.{put_mid-paste}
use lib.Seq.{sets, sets-eq, take_all, set_comm, take_at, length-sets}
use Rattle.model.specs.Decimals.{decimal}
use Rattle.model.proofs.Cases.{by_order}
use Rattle.model.proofs.Lists.{stored_behind}
use Rattle.decimals.specs.Written.{Written}
use Rattle.decimals.proofs.Digits.{short, long, short_size, long_size}

pub text_written : (b xs zs : List ℕ) (at : ℕ) → at + length xs ≤ length b → zs ≡ xs → Written b at xs (put_mid at (at + length xs - at) b zs) (at + length xs)
text_written b xs zs at room e =
    record {
      room = room;
      stored =
          put_mid-paste at (at + length xs - at) b zs xs (length xs) e (omega arith) refl
          ∙ ap (λ (t : List ℕ). take at b ++ t ++ drop (at + length xs) b) (take_all (length xs) xs (omega arith))
          ∙ sym (sets-eq xs b at room);
      behind = refl;
    }

-- The last k digits of n.
unfoldable pub spell : ℕ → ℕ → List ℕ
spell zero n = []
spell (suc k) n = spell k (n / 10) ++ ((48 + n % 10) ∷ [])

spell_decimal : (k n : ℕ) → length (decimal n) ≡ k → decimal n ≡ spell k n
unfolding spell
spell_decimal zero n e =
    by_order n 10 (λ h. let s = short_size n h in absurd (omega arith)) (λ h. let s = long_size n h in absurd (omega arith))
spell_decimal (suc k) n e = by_order n 10 one (more (λ q. spell_decimal k (n / 10) q))
  where
    one : n < 10 → decimal n ≡ spell k (n / 10) ++ ((48 + n % 10) ∷ [])
    one h =
        let s = short_size n h in
        let z : k ≡ 0 = omega arith in
        let m : n % 10 ≡ n = omega arith in
        let w : (48 + n) ∷ [] ≡ spell k (n / 10) ++ ((48 + n % 10) ∷ []) = rw (z, m) in
        short n h ∙ w

    more : (length (decimal (n / 10)) ≡ k → decimal (n / 10) ≡ spell k (n / 10)) → 10 ≤ n → decimal n ≡ spell k (n / 10) ++ ((48 + n % 10) ∷ [])
    more before h = let s = long_size n h in long n h ∙ ap (λ (x : List ℕ). x ++ ((48 + n % 10) ∷ [])) (before (omega arith))

spell_length : (k n : ℕ) → length (spell k n) ≡ k
unfolding spell
spell_length zero n = refl
spell_length (suc k) n = length-append (spell k (n / 10)) ((48 + n % 10) ∷ []) ∙ (let e = spell_length k (n / 10) in omega arith)

store_last : (b : List ℕ) (at : ℕ) (xs : List ℕ) (y : ℕ) → sets (set b (at + length xs) y) at xs ≡ sets b at (xs ++ (y ∷ []))
store_last b at [] y = let e : at + 0 ≡ at = omega arith in rw e
store_last b at (x ∷ xs) y =
    let e : at + suc (length xs) ≡ suc at + length xs = omega arith in
    ap (λ (l : List ℕ). sets l (suc at) xs) (set_comm b (at + suc (length xs)) at y x (λ q. omega arith) ∙ ap (λ (k : ℕ). set (set b at x) k y) e)
    ∙ store_last (set b at x) (suc at) xs y

-- Digits stored from the last on: the `left` first are still to come, and they are those of `rest`.
pub record Storing (before : List ℕ) (at n : ℕ) (buf : List ℕ) (left rest : ℕ) : Type 0 where
  pub few : left ≤ length (decimal n)
  pub size : length buf ≡ length before
  pub same : sets buf at (spell left rest) ≡ sets before at (decimal n)

pub storing_start : (b : List ℕ) (at n k : ℕ) → k ≡ length (decimal n) → Storing b at n b k n
storing_start b at n k e = record { few = omega arith; size = refl; same = ap (λ (x : List ℕ). sets b at x) (sym (spell_decimal k n (sym e))) }

one_stored : (buf : List ℕ) (at k rest : ℕ) → sets (set buf (at + k) (48 + rest % 10)) at (spell k (rest / 10)) ≡ sets buf at (spell (suc k) rest)
unfolding spell
one_stored buf at k rest =
    ap (λ (x : ℕ). sets (set buf (at + x) (48 + rest % 10)) at (spell k (rest / 10))) (sym (spell_length k (rest / 10)))
    ∙ store_last buf at (spell k (rest / 10)) (48 + rest % 10)

module _ (b : List ℕ) (at n : ℕ) (buf : List ℕ) (left rest : ℕ) (s : Storing b at n buf left rest) where
  pub storing_next : 0 < left → Storing b at n (set buf (at + (left - 1)) (48 + rest % 10)) (left - 1) (rest / 10)
  storing_next h =
      let f = s.few in
      let e : suc (left - 1) ≡ left = omega arith in
      record {
        few = omega arith;
        size = length-set buf (at + (left - 1)) (48 + rest % 10) ∙ s.size;
        same = one_stored buf at (left - 1) rest ∙ ap (λ (k : ℕ). sets buf at (spell k rest)) e ∙ s.same;
      }

  pub stored : left ≤ 0 → buf ≡ sets b at (decimal n)
  unfolding spell
  stored h = let e : left ≡ 0 = omega arith in rw e at s.same

pub written_size : {b c : List ℕ} {at next : ℕ} {xs : List ℕ} → Written b at xs c next → length c ≡ length b
written_size {b} {c} {at} {next} {xs} w = ap length w.stored ∙ length-sets b at xs

-- One part written behind another.
pub written_both : {b c d : List ℕ} {at next end : ℕ} {xs ys : List ℕ} → Written b at xs c next → Written c next ys d end → Written b at (xs ++ ys) d end
written_both {b} {c} {d} {at} {next} {end} {xs} {ys} v w =
    record {
      room = omega (arith, v.behind, w.room, written_size v, length-append xs ys);
      stored = stored_behind b c d at next xs ys v.stored (sym v.behind) w.stored;
      behind = omega (arith, v.behind, w.behind, length-append xs ys);
    }

-- What is written at the front of a buffer are its first bytes.
pub written_front : {b c : List ℕ} {next : ℕ} {xs : List ℕ} → Written b 0 xs c next → take next c ≡ xs
written_front {b} {c} {next} {xs} w =
    ap (λ (l : List ℕ). take next l) (w.stored ∙ sets-eq xs b 0 w.room) ∙ take_at xs (drop (0 + length xs) b) next (omega (arith, w.behind))
