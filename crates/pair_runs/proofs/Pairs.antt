-- A vertex that others of its list follow: the steps of its two numbers come to one turn of a run.
use Prim.Native.Nat.{ℕ, suc, ◌+◌, ◌-◌, ◌<◌}
use Rattle.std.specs.Prelude.{Ok}
use mathlib.Core.Path.{◌≡◌, refl, sym, ap, ◌∙◌}
use mathlib.Core.List.{List}
use mathlib.Core.Bool.{Bool, true}
use native.Mathlib.Omega.{arith}
use lib.ListN.{set, length-set}
use lib.Dec.{eqb}
use borrow.Author.Tests.{ne_eqb}
use Rattle.model.specs.declared.Field.{Field}
use Rattle.model.specs.Spelling.{read_number}
use Rattle.model.specs.Table.{limits, bases, kinds, jumps, counts, kind, first_kind}
use Rattle.model.specs.File.{number_count, next_field, after_item, edition_in, unwritten, below_count, from_header, zero_unwritten, in_range, ascends, item_start, read_from}
use Rattle.model.proofs.Cases.{by_cond}
use Rattle.spelling.proofs.Prefix.{number_ends}
use Rattle.fields.specs.Valid.{Valid, Placed, field}
use Rattle.fields.proofs.Steps.{placed, next_later, ranged_later}
use Rattle.fields.proofs.OneField.{read_on}
use Rattle.fields.proofs.Editions.{plainly_read}
use Rattle.edge_runs.specs.Edges.{ItemTaken}
use Rattle.edge_runs.proofs.Items.{item_read, one_taken}
use Rattle.pair_runs.specs.Pairs.{Pair, vertices, Item, pair, edge, AtPair}
use Rattle.model.specs.Places as places
use Rattle.model.specs.Rows as rows

-- What the steps of the two numbers find.
going : {row : ℕ} → Pair row → row + 1 < rows.end
going vertices = omega arith

-- An item that is no edge is a vertex.
pub no_edge : {row : ℕ} → Item row → (row ≡ rows.from → ⊥) → Pair row
no_edge (pair p) other = p
no_edge edge other = let z : ⊥ = other refl in elim z [ ]

pub item_going : {row : ℕ} → Item row → row < rows.end
item_going (pair p) = omega (arith, going p)
item_going edge = omega arith

module _ (l : List ℕ) (q left v : ℕ) where
  first_ascends : {row : ℕ} → Pair row → ascends l (field row q left) ≡ true
  unfolding ascends bases
  first_ascends vertices = by_cond (λ (b : Bool). b ≡ true) (eqb q places.function) (λ e. refl) (λ e. refl)

  second_ascends : {row : ℕ} → Pair row → ascends l (field (row + 1) q left) ≡ true
  unfolding ascends bases
  second_ascends vertices = by_cond (λ (b : Bool). b ≡ true) (eqb q places.cost) (λ e. refl) (λ e. refl)

  first_next : {row : ℕ} → Pair row → next_field (field row q left) v ≡ field (row + 1) (q + 1) left
  unfolding next_field kinds
  first_next vertices = refl

  second_next : {row : ℕ} → Pair row → 0 < left → next_field (field (row + 1) q left) v ≡ field row (q + 1) (left - 1)
  unfolding next_field after_item kinds jumps
  second_next vertices h = simp (ne_eqb left 0 (λ e. omega arith))

  -- The second number is held to its row alone, whatever the numbers before it.
  second_free : (m : List ℕ) {row : ℕ} → Pair row → in_range l (field (row + 1) q left) v ≡ in_range m (field (row + 1) q left) v
  unfolding in_range below_count from_header zero_unwritten unwritten limits counts
  second_free m vertices = refl

-- Neither number is a check cost.
first_plain : {row : ℕ} → Pair row → row ≡ rows.check → ⊥
first_plain vertices e = omega arith

second_plain : {row : ℕ} → Pair row → row + 1 ≡ rows.check → ⊥
second_plain vertices e = omega arith

-- The first number starts the item, and the second does not.
first_kind_lem : {row : ℕ} → Pair row → kind row ≡ first_kind
unfolding kinds
first_kind_lem vertices = refl

starts : {row : ℕ} → Pair row → (at start q left : ℕ) → item_start (field row q left) at start ≡ at
unfolding item_start
starts p at start q left = simp (first_kind_lem p)

goes_on : {row : ℕ} → Pair row → (at start q left : ℕ) → item_start (field (row + 1) q left) at start ≡ start
unfolding item_start kinds
goes_on vertices at start q left = refl

-- The field of the second number.
abbrev pub behind : Field → Field
behind c = field (c.row + 1) (c.place + 1) c.left

-- There is room for both numbers.
room : {row q left : ℕ} → Pair row → Valid (field row q left) → q + 1 < number_count
unfolding next_field kinds
room vertices v = (placed (next_later v 0 (omega arith) (omega arith)).valid (omega arith)).place

module _ {s : List ℕ} {at : ℕ} {c : Field} {l : List ℕ} (p : AtPair s at c l) where
  pub pair_fits : c.place + 1 < number_count
  pair_fits = room p.pair p.item.readable.valid

  pub here_placed : Placed c
  here_placed = placed p.item.readable.valid (omega (arith, going p.pair))

  module _ (a : ℕ) (good : in_range l c a ≡ true) where
    behind_valid : Valid (behind c)
    behind_valid = (ranged_later p.item.readable.valid (omega (arith, going p.pair)) l a good (sym (first_next l c.place c.left a p.pair))).valid

    pub behind_placed : Placed (behind c)
    behind_placed = placed behind_valid (going p.pair)

-- What the tests of an item found: its two numbers, both in range.
pub record Found (s : List ℕ) (at : ℕ) (c : Field) (l : List ℕ) : Type 0 where
  pub a : ℕ
  pub middle : ℕ
  pub first_read : read_number s at ≡ Ok (a, middle)
  pub first_good : in_range l c a ≡ true
  pub b : ℕ
  pub next : ℕ
  pub second_read : read_number s middle ≡ Ok (b, next)
  pub second_good : in_range l (behind c) b ≡ true

module _ {s : List ℕ} {at : ℕ} {c : Field} {l : List ℕ} (p : AtPair s at c l) (f : Found s at c l) where
  abbrev half : List ℕ
  half = set l c.place f.a

  abbrev pub whole : List ℕ
  whole = set half (c.place + 1) f.b

  abbrev after : Field
  after = field c.row (c.place + 1 + 1) (c.left - 1)

  second_ranged : in_range half (behind c) f.b ≡ true
  second_ranged = sym (second_free l (c.place + 1) c.left f.b half p.pair) ∙ f.second_good

  two_read : (n start : ℕ) → read_from (suc (suc n)) s at start c l ≡ read_from n s f.next at after whole
  two_read n start =
      read_on s at start c l (suc n) (omega (arith, going p.pair)) f.a f.middle (plainly_read (edition_in l) c (first_plain p.pair) s at ∙ f.first_read) f.first_good (first_ascends half c.place c.left 0 p.pair)
      ∙ ap (λ (d : Field). read_from (suc n) s f.middle (item_start c at start) d half) (first_next l c.place c.left f.a p.pair)
      ∙ ap (λ (k : ℕ). read_from (suc n) s f.middle k (behind c) half) (starts p.pair at start c.place c.left)
      ∙ read_on s f.middle at (behind c) half n (going p.pair) f.b f.next (plainly_read (edition_in half) (behind c) (second_plain p.pair) s f.middle ∙ f.second_read) second_ranged (second_ascends whole (c.place + 1) c.left 0 p.pair)
      ∙ ap (λ (k : ℕ). read_from n s f.next k (next_field (behind c) f.b) whole) (goes_on p.pair f.middle at (c.place + 1) c.left)
      ∙ ap (λ (d : Field). read_from n s f.next at d whole) (second_next l (c.place + 1) c.left f.b p.pair p.item.more)

  two_valid : Valid after
  two_valid =
      (ranged_later (behind_valid p f.a f.first_good) (going p.pair) half f.b second_ranged
      (sym (second_next l (c.place + 1) c.left f.b p.pair p.item.more))).valid

  pub pair_taken : ItemTaken s at c l whole f.next
  pair_taken =
      let ends = number_ends _ _ _ _ f.second_read in
      one_taken (omega (arith, ends.0)) (item_read p.item.more ends.2 (simp length-set p.item.readable.long) (first_kind_lem p.pair) two_valid two_read)
