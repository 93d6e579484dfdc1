-- Reading on the way: words up to a byte, and a number up to a digit.
use Prim.Native.Nat.{ℕ, ◌+◌, ◌-◌, ◌*◌, ◌≤◌, ◌<◌}
use Rattle.std.specs.Prelude.{Err, None, Ok, Some}
use native.Mathlib.Omega.{arith}
use native.Mathlib.Numerals.{add-one}
use mathlib.Core.Path.{◌≡◌, sym, ◌∙◌}
use mathlib.Core.Bool.{true, false, cond}
use mathlib.Core.List.{List}
use lib.ListN.{length, drop, get_or, drop_of_length-le}
use lib.Seq.{drop-cons}
use lib.Dec.{eqb}
use borrow.Author.Tests.{eq-eqb, ne_eqb}
use Rattle.grammar.specs.Numerals.{opens, fits, digits, numeral}
use Rattle.grammar.proofs.Numerals.{opens_gives, fits_gives}
use Rattle.pieces.specs.Pieces.{pass_words, found, read_value}

words_here : (w s : List ℕ) (i j : ℕ) → i < length w → j < length s →
    pass_words (drop i w) (drop j s) j ≡ cond (eqb (get_or s j 0) (get_or w i 0)) (pass_words (drop (i + 1) w) (drop (j + 1) s) (j + 1)) (Err j)
unfolding pass_words
words_here w s i j h k = simp (drop-cons w i 0 h, drop-cons s j 0 k, add-one)

-- The first i of the words stand there.
pub record Passing (s : List ℕ) (at : ℕ) (w : List ℕ) (i : ℕ) : Type 0 where
  pub inside : i ≤ length w
  pub within : at + i ≤ length s
  pub same : pass_words (drop i w) (drop (at + i) s) (at + i) ≡ pass_words w (drop at s) at

module _ (s : List ℕ) (at : ℕ) (w : List ℕ) where
  pub passing_start : at ≤ length s → Passing s at w 0
  passing_start h = let e : at + 0 ≡ at = omega arith in record { inside = omega arith; within = omega arith; same = rw e }

  module _ (i : ℕ) (p : Passing s at w i) where
    pub stop_short : i < length w → length s ≤ at + i → Err (at + i) ≡ pass_words w (drop at s) at
    unfolding pass_words
    stop_short h k = rw (drop-cons w i 0 h, drop_of_length-le s k) at p.same

    here : i < length w → at + i < length s →
        cond (eqb (get_or s (at + i) 0) (get_or w i 0)) (pass_words (drop (i + 1) w) (drop (at + i + 1) s) (at + i + 1)) (Err (at + i)) ≡ pass_words w (drop at s) at
    here h k = sym (words_here w s i (at + i) h k) ∙ p.same

    pub stop_differs : i < length w → at + i < length s → (get_or s (at + i) 0 ≡ get_or w i 0 → ⊥) → Err (at + i) ≡ pass_words w (drop at s) at
    stop_differs h k n = rw (ne_eqb (get_or s (at + i) 0) (get_or w i 0) n) at here h k

    pub passing_next : i < length w → at + i < length s → get_or s (at + i) 0 ≡ get_or w i 0 → Passing s at w (i + 1)
    passing_next h k e =
        let q : at + i + 1 ≡ at + (i + 1) = omega arith in
        record { inside = omega arith; within = omega arith; same = rw (eq-eqb (get_or s (at + i) 0) (get_or w i 0) e, q) at here h k }

    pub passed_all : length w ≤ i → Ok (at + length w) ≡ pass_words w (drop at s) at
    unfolding pass_words
    passed_all h = let e : i ≡ length w = omega (arith, p.inside) in rw (drop_of_length-le w h, e) at p.same

-- A reading of the number at `at` that has come to `pos`.
pub record Underway (s : List ℕ) (at l m v pos : ℕ) : Type 0 where
  pub inside : pos ≤ length s
  pub below : v ≤ m
  pub same : digits m v (drop pos s) pos found ≡ read_value l m (drop at s) at

module _ (s : List ℕ) (at l m : ℕ) where
  pub none_left : length s ≤ at → None ≡ read_value l m (drop at s) at
  unfolding read_value numeral
  none_left h = rw (drop_of_length-le s h)

  pub none_opens : at < length s → opens l m (get_or s at 0) ≡ false → None ≡ read_value l m (drop at s) at
  unfolding read_value numeral
  none_opens h e = rw (drop-cons s at 0 h, e)

  pub first_read : at < length s → opens l m (get_or s at 0) ≡ true → Underway s at l m (get_or s at 0 - 48) (at + 1)
  unfolding read_value numeral
  first_read h e = record { inside = omega arith; below = (opens_gives l m (get_or s at 0) e).3; same = rw (drop-cons s at 0 h, e, add-one at) }

  module _ (v pos : ℕ) (u : Underway s at l m v pos) where
    pub stops_at_end : length s ≤ pos → Some (v, (length s)) ≡ read_value l m (drop at s) at
    unfolding digits
    stops_at_end h = let e : pos ≡ length s = omega (arith, u.inside) in rw (drop_of_length-le s h, e) at u.same

    step : pos < length s → digits m v (drop pos s) pos found ≡ cond (fits v m (get_or s pos 0)) (digits m (v * 10 + (get_or s pos 0 - 48)) (drop (pos + 1) s) (pos + 1) found) (Some (v, pos))
    unfolding digits
    step h = rw (drop-cons s pos 0 h, add-one pos)

    pub stops_here : pos < length s → fits v m (get_or s pos 0) ≡ false → Some (v, pos) ≡ read_value l m (drop at s) at
    stops_here h e = sym (rw e at step h) ∙ u.same

    pub goes_on : pos < length s → fits v m (get_or s pos 0) ≡ true → Underway s at l m (v * 10 + (get_or s pos 0 - 48)) (pos + 1)
    goes_on h e = record { inside = omega arith; below = (fits_gives v m (get_or s pos 0) e).3; same = sym (rw e at step h) ∙ u.same }
