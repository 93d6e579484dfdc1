-- What reading leaves is good: each field was judged by the numbers before it, and those stay as they were.
use Prim.Native.Nat.{ℕ, suc}
use Rattle.std.specs.Prelude.{Ok}
use mathlib.Core.Path.{◌≡◌, refl, sym, ◌∙◌}
use mathlib.Core.List.{List}
use mathlib.Core.Bool.{true, false}
use native.Mathlib.Omega.{arith}
use lib.ListN.{length, get_or, set, replicate, length-set, length-replicate}
use lib.Seq.{get_or-set_same, get_or-set_other}
use borrow.Author.Tests.{leb-false}
use Rattle.model.specs.declared.Field.{Field}
use Rattle.model.specs.File.{number_count, first_field, at_end, next_field, in_range, ascends, scanned, read_from, read_fields}
use Rattle.fields.specs.Valid.{Valid}
use Rattle.fields.specs.Fill.{fill_from}
use Rattle.fields.proofs.Steps.{placed}
use Rattle.fields.proofs.OneField.{Passed, fill_over, fill_on}
use Rattle.facts.proofs.Good.{Good, goes_later}
use Rattle.facts.proofs.Agree.{Agree, alike_below, range_agrees, ascends_agrees}
use Rattle.facts.proofs.Turns.{Reads, reads}
use Rattle.model.specs.Rows as rows

-- The numbers m that reading at most n fields from c on into l leaves.
pub record ReadInto (n : ℕ) (c : Field) (l m : List ℕ) : Type 0 where
  pub good : Good m n c
  pub size : length m ≡ number_count
  pub before : Agree c.place m l
  pub filled : m ≡ fill_from n c m l

-- The number v, read at c, and the fields after it.
module _ {n : ℕ} {c : Field} (l : List ℕ) {m : List ℕ} (v : ℕ) (f : Valid c) (size : length l ≡ number_count) (going : at_end c ≡ false)
    (range : in_range l c v ≡ true) (more : ReadInto n (next_field c v) (set l c.place v) m) where
  same : Agree (suc c.place) m (set l c.place v)
  same k h = more.before k (omega (arith, (goes_later l f going v range).higher))

  here : get_or m c.place 0 ≡ v
  here =
      same c.place (omega arith)
      ∙ get_or-set_same l c.place v 0 (omega (arith, (placed f (leb-false rows.end c.row going)).place))

  before : Agree c.place m l
  before k h = same k (omega arith) ∙ get_or-set_other l c.place k v 0 (omega arith)

  module _ (order : ascends (set l c.place v) c ≡ true) where
    passed : Passed m c
    passed =
        record {
          in_range_lem = rw here (range_agrees m l f (alike_below c m l before) v ∙ range);
          ascending =
              ascends_agrees m (set l c.place v) f (alike_below c m (set l c.place v) (λ k h. same k (omega arith))) (same c.place (omega arith))
              ∙ order;
        }

    read_on : ReadInto (suc n) c l m
    read_on =
        record {
          good = Good.on {n = n} going passed (rw here more.good);
          size = more.size;
          before = before;
          filled = more.filled ∙ sym (fill_on n c m v going here l);
        }

module _ {s : List ℕ} where
  pub turned : {n at start : ℕ} {c : Field} {l : List ℕ} {end : ℕ} {m : List ℕ} → Valid c → length l ≡ number_count →
      Reads s n at start c l end m → ReadInto n c l m
  unfolding fill_from
  turned f size Reads.none = record { good = Good.none; size = size; before = λ k h. refl; filled = refl }
  turned {c} {l} f size (Reads.over {n} e) = record { good = Good.over e; size = size; before = λ k h. refl; filled = sym (fill_over n c l l e) }
  turned {c} {l} f size (Reads.on v next e q r a more) =
      read_on l v f size e r (turned (goes_later l f e v r).valid (length-set l c.place v ∙ size) more) a

  -- The number that is read at a field is left there.
  pub number_read : {n at start : ℕ} {c : Field} (l : List ℕ) {end : ℕ} {m : List ℕ} (v : ℕ) → Valid c → length l ≡ number_count → at_end c ≡ false → in_range l c v ≡ true →
      Reads s n at start (next_field c v) (set l c.place v) end m → get_or m c.place 0 ≡ v
  number_read {c = c} l v f size e r more =
      here l v f size e r (turned (goes_later l f e v r).valid (length-set l c.place v ∙ size) more)

module _ (s : List ℕ) where
  pub read_into : (n at start : ℕ) (c : Field) (l : List ℕ) (end : ℕ) (m : List ℕ) → Valid c → length l ≡ number_count →
      read_from n s at start c l ≡ scanned (Ok end) m → ReadInto n c l m
  read_into n at start c l end m f size e = turned f size (reads s end m n at start c l e)

  -- What reading a whole file leaves.
  pub fields_read : (end : ℕ) (l : List ℕ) → read_fields s ≡ scanned (Ok end) l → ReadInto number_count first_field (replicate number_count 0) l
  fields_read end l e =
      read_into number_count 0 0 first_field (replicate number_count 0) end l Valid.edition (length-replicate {A = ℕ} number_count 0) e
