-- One field more: of reading, of judging, of a check that ends well, of a file's bytes, and of filling a list.
use Prim.Native.Nat.{ℕ, zero, suc, ◌+◌, ◌≤◌, ◌<◌}
use Rattle.std.specs.Prelude.{Err, Ok, Result}
use Rattle.model.specs.declared.Misread.TheVariants.{Ended, Misspelt}
use mathlib.Core.Path.{◌≡◌, refl}
use mathlib.Core.List.{List, [], ◌++◌}
use mathlib.Core.Bool.{Bool, true, false, cond}
use lib.ListN.{length, get_or, set}
use borrow.Author.Tests.{le-leb, lt-leb}
use Rattle.model.specs.declared.Refusal.{Refusal}
use Rattle.model.specs.declared.Refusal.TheVariants as refusal
use Rattle.model.specs.declared.Field.{Field}
use Rattle.model.specs.File.{at_end, next_field, edition_in, read_field, field_size, field_bytes, in_range, ascends, item_start, scanned, read_from, check_from, bytes_from}
use Rattle.model.proofs.Answers.{refused_not_done}
use Rattle.fields.specs.Fill.{fill_from}
use Rattle.model.specs.Rows as rows

-- Reading.
module _ (s : List ℕ) (at start : ℕ) (c : Field) (l : List ℕ) where
  pub read_done : (n : ℕ) → rows.end ≤ c.row → read_from n s at start c l ≡ scanned (Ok at) l
  unfolding read_from
  read_done zero h = refl
  read_done (suc n) h = simp (le-leb rows.end c.row h)

  module _ (n : ℕ) (h : c.row < rows.end) where
    pub read_ended : read_field (edition_in l) s at c ≡ Err Ended → read_from (suc n) s at start c l ≡ scanned (Err (refusal.EndsEarly (length s))) l
    unfolding read_from
    read_ended e = simp (lt-leb rows.end c.row h, e)

    pub read_misspelt : read_field (edition_in l) s at c ≡ Err Misspelt → read_from (suc n) s at start c l ≡ scanned (Err (refusal.Misspelt at)) l
    unfolding read_from
    read_misspelt e = simp (lt-leb rows.end c.row h, e)

    module _ (v next : ℕ) (e : read_field (edition_in l) s at c ≡ Ok (v, next)) where
      pub read_out : in_range l c v ≡ false → read_from (suc n) s at start c l ≡ scanned (Err (refusal.OutOfRange at)) l
      unfolding read_from
      read_out f = simp (lt-leb rows.end c.row h, e, f)

      module _ (f : in_range l c v ≡ true) where
        pub read_disorder : ascends (set l c.place v) c ≡ false → read_from (suc n) s at start c l ≡ scanned (Err (refusal.NotAscending (item_start c at start))) (set l c.place v)
        unfolding read_from
        read_disorder g = simp (lt-leb rows.end c.row h, e, f, g)

        pub read_on : ascends (set l c.place v) c ≡ true → read_from (suc n) s at start c l ≡ read_from n s next (item_start c at start) (next_field c v) (set l c.place v)
        unfolding read_from
        read_on g = simp (lt-leb rows.end c.row h, e, f, g)

-- A check that ends well took the branch that goes on.
went_on : (t : Bool) (a : Result ℕ Refusal) (r : Refusal) (end : ℕ) → cond t a (Err r) ≡ Ok end → (t ≡ true) × (a ≡ Ok end)
went_on true a r end e = (refl, e)
went_on false a r end e = refused_not_done e

module _ (l : List ℕ) where
  -- The number at a field passes the checks there.
  pub record Passed (c : Field) : Type 0 where
    pub in_range_lem : in_range l c (get_or l c.place 0) ≡ true
    pub ascending : ascends l c ≡ true

  -- Judging.
  module _ (at start : ℕ) (c : Field) where
    pub check_done : (n : ℕ) → rows.end ≤ c.row → check_from n at start c l ≡ Ok at
    unfolding check_from
    check_done zero h = refl
    check_done (suc n) h = simp (le-leb rows.end c.row h)

    module _ (n : ℕ) (h : c.row < rows.end) where
      pub check_out : in_range l c (get_or l c.place 0) ≡ false → check_from (suc n) at start c l ≡ Err (refusal.OutOfRange at)
      unfolding check_from
      check_out f = simp (lt-leb rows.end c.row h, f)

      pub check_disorder : in_range l c (get_or l c.place 0) ≡ true → ascends l c ≡ false → check_from (suc n) at start c l ≡ Err (refusal.NotAscending (item_start c at start))
      unfolding check_from
      check_disorder f g = simp (lt-leb rows.end c.row h, f, g)

      pub check_on : Passed c → check_from (suc n) at start c l ≡ check_from n (at + field_size (edition_in l) c (get_or l c.place 0)) (item_start c at start) (next_field c (get_or l c.place 0)) l
      unfolding check_from
      check_on p = simp (lt-leb rows.end c.row h, p.in_range_lem, p.ascending)

  pub checked : (n at start end : ℕ) (c : Field) → c.row < rows.end → check_from (suc n) at start c l ≡ Ok end →
      Passed c × (check_from n (at + field_size (edition_in l) c (get_or l c.place 0)) (item_start c at start) (next_field c (get_or l c.place 0)) l ≡ Ok end)
  unfolding check_from
  checked n at start end c h e =
      let f = went_on (in_range l c (get_or l c.place 0)) _ _ end (rw (lt-leb rows.end c.row h) at e) in
      let g = went_on (ascends l c) _ _ end f.1 in
      (record { in_range_lem = f.0; ascending = g.0 }, g.1)

module _ (n : ℕ) (c : Field) (l : List ℕ) where
  pub bytes_over : at_end c ≡ true → bytes_from (suc n) c l ≡ []
  unfolding bytes_from
  bytes_over e = simp e

  pub fill_over : (m : List ℕ) → at_end c ≡ true → fill_from (suc n) c l m ≡ m
  unfolding fill_from
  fill_over m e = simp e

  module _ (v : ℕ) (going : at_end c ≡ false) (here : get_or l c.place 0 ≡ v) where
    pub bytes_on : bytes_from (suc n) c l ≡ field_bytes (edition_in l) c v ++ bytes_from n (next_field c v) l
    unfolding bytes_from
    bytes_on = simp (going, here)

    pub fill_on : (m : List ℕ) → fill_from (suc n) c l m ≡ fill_from n (next_field c v) l (set m c.place v)
    unfolding fill_from
    fill_on m = simp (going, here)
