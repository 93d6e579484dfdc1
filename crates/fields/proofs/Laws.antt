-- The definitions that the functions on fields equal, case by case.
use Prim.Native.Nat.{ℕ, ◌+◌, ◌-◌, ◌≤◌, ◌<◌}
use mathlib.Core.Path.{◌≡◌, sym, ap, ◌∙◌}
use mathlib.Core.List.{List}
use mathlib.Core.Bool.{Bool, true, false}
use native.Mathlib.Omega.{arith}
use lib.ListN.{get_or}
use lib.Dec.{eqb, ltb, leb}
use borrow.Author.Tests.{eq-eqb, ne_eqb, lt-ltb, le-ltb, lt-leb, le-leb}
use Rattle.model.specs.declared.Field.{Field}
use Rattle.model.specs.Table.{bases, base, kinds, kind, count_kind, first_kind, last_kind, jump, count_over, least, greatest}
use Rattle.model.specs.File.{after_count, after_item, next_field, edition_in, unwritten, below_count, from_header, zero_unwritten, in_range, edge_before, edge_span, loop_span, ascends, item_start}
use Rattle.model.proofs.Cases.{by_bool}
use Rattle.fields.proofs.Rows.{jump_below, count_below}
use Rattle.model.specs.Places as places
use Rattle.model.specs.Rows as rows

pub jump_fits : (row to : ℕ) → row < rows.end → to ≡ jump row → to < rows.end + 1
jump_fits row to h e = omega (arith, jump_below row h)

pub count_fits : (row over : ℕ) → row < rows.end → over ≡ count_over row → over < places.end
count_fits row over h e = omega (arith, count_below row h)

module _ (c : Field) (v : ℕ) where
  pub empty_list : (row place : ℕ) → row ≡ jump c.row → place ≡ base row → v ≡ 0 → record { row = row; place = place; left = 0 } ≡ after_count c v
  unfolding after_count
  empty_list row place e f q = simp (eq-eqb v 0 q) (rw (f, e))

  pub open_list : (v ≡ 0 → ⊥) → record { row = c.row + 1; place = c.place + 1; left = v - 1 } ≡ after_count c v
  unfolding after_count
  open_list q = simp (ne_eqb v 0 q)

  pub past_list : (place : ℕ) → place ≡ base (c.row + 1) → c.left ≡ 0 → record { row = c.row + 1; place = place; left = 0 } ≡ after_item c
  unfolding after_item
  past_list place e q = simp (eq-eqb c.left 0 q) (rw e)

  pub next_item : (row : ℕ) → row ≡ jump c.row → (c.left ≡ 0 → ⊥) → record { row = row; place = c.place + 1; left = c.left - 1 } ≡ after_item c
  unfolding after_item
  next_item row e q = simp (ne_eqb c.left 0 q) (rw e)

  module _ (k : ℕ) (is : k ≡ kind c.row) where
    pub next_counted : (d : Field) → d ≡ after_count c v → k ≡ count_kind → d ≡ next_field c v
    unfolding next_field
    next_counted d e q = let r : kind c.row ≡ count_kind = omega arith in e ∙ simp (eq-eqb (kind c.row) count_kind r)

    module _ (n : k ≡ count_kind → ⊥) where
      not_count : eqb (kind c.row) count_kind ≡ false
      not_count = ne_eqb (kind c.row) count_kind (λ q. n (is ∙ q))

      pub next_ended : (d : Field) → d ≡ after_item c → k ≡ last_kind → d ≡ next_field c v
      unfolding next_field
      next_ended d e q = let r : kind c.row ≡ last_kind = omega arith in e ∙ simp (not_count, eq-eqb (kind c.row) last_kind r)

      pub next_within : (k ≡ last_kind → ⊥) → record { row = c.row + 1; place = c.place + 1; left = c.left } ≡ next_field c v
      unfolding next_field
      next_within q = simp (not_count, ne_eqb (kind c.row) last_kind (λ r. q (is ∙ r)))

    pub starts : (at start : ℕ) → k ≡ first_kind → at ≡ item_start c at start
    unfolding item_start
    starts at start q = let r : kind c.row ≡ first_kind = omega arith in simp (eq-eqb (kind c.row) first_kind r)

    pub goes_on : (at start : ℕ) → (k ≡ first_kind → ⊥) → start ≡ item_start c at start
    unfolding item_start
    goes_on at start q = simp (ne_eqb (kind c.row) first_kind (λ r. q (is ∙ r)))

module _ (l : List ℕ) where
  module _ (row v over : ℕ) (is : over ≡ count_over row) where
    pub no_count : over ≡ 0 → true ≡ below_count l row v
    unfolding below_count
    no_count q = let r : count_over row ≡ 0 = omega arith in simp (eq-eqb (count_over row) 0 r)

    pub under_count : (over ≡ 0 → ⊥) → ltb v (get_or l over 0) ≡ below_count l row v
    unfolding below_count
    under_count q = simp (ne_eqb (count_over row) 0 (λ r. q (is ∙ r))) (ap (λ (k : ℕ). ltb v (get_or l k 0)) is)

  module _ (c : Field) (v : ℕ) where
    pub after_header : c.row ≡ rows.last → leb (get_or l (c.place - (places.last - places.header)) 0) v ≡ from_header l c v
    unfolding from_header
    after_header q = simp (eq-eqb c.row rows.last q)

    pub any_header : (c.row ≡ rows.last → ⊥) → true ≡ from_header l c v
    unfolding from_header
    any_header q = simp (ne_eqb c.row rows.last q)

    pub must_be_zero : unwritten (edition_in l) c ≡ true → eqb v 0 ≡ zero_unwritten l c v
    unfolding zero_unwritten
    must_be_zero q = simp q

    pub may_be_any : unwritten (edition_in l) c ≡ false → true ≡ zero_unwritten l c v
    unfolding zero_unwritten
    may_be_any q = simp q

    pub too_low : v < least c.row → false ≡ in_range l c v
    unfolding in_range
    too_low h = simp (lt-leb (least c.row) v h)

    module _ (low : least c.row ≤ v) where
      pub too_high : greatest c.row < v → false ≡ in_range l c v
      unfolding in_range
      too_high h = simp (le-leb (least c.row) v low, lt-leb v (greatest c.row) h)

      module _ (high : v ≤ greatest c.row) where
        pub past_count : below_count l c.row v ≡ false → false ≡ in_range l c v
        unfolding in_range
        past_count e = simp (le-leb (least c.row) v low, le-leb v (greatest c.row) high, e)

        module _ (below : below_count l c.row v ≡ true) where
          pub past_header : from_header l c v ≡ false → false ≡ in_range l c v
          unfolding in_range
          past_header e = simp (le-leb (least c.row) v low, le-leb v (greatest c.row) high, below, e)

          pub within : from_header l c v ≡ true → zero_unwritten l c v ≡ in_range l c v
          unfolding in_range
          within e = simp (le-leb (least c.row) v low, le-leb v (greatest c.row) high, below, e)

module _ (from to from' to' : ℕ) where
  pub higher : from < from' → true ≡ edge_before from to from' to'
  unfolding edge_before
  higher h = simp (lt-ltb from from' h)

  module _ (h : from' ≤ from) where
    pub level : from ≡ from' → ltb to to' ≡ edge_before from to from' to'
    unfolding edge_before
    level q = simp (le-ltb from from' h, eq-eqb from from' q)

    pub lower : (from ≡ from' → ⊥) → false ≡ edge_before from to from' to'
    unfolding edge_before
    lower q = simp (le-ltb from from' h, ne_eqb from from' q)

module _ (l : List ℕ) (c : Field) (b : ℕ) (is : b ≡ base c.row) where
  pub first_item : c.place ≡ b → true ≡ ascends l c
  unfolding ascends
  first_item q = simp (eq-eqb c.place (base c.row) (q ∙ is))

  module _ (n : c.place ≡ b → ⊥) where
    later_item : eqb c.place (base c.row) ≡ false
    later_item = ne_eqb c.place (base c.row) (λ q. n (q ∙ sym is))

    pub edge_ascends : c.row ≡ rows.to → (t : Bool) →
        t ≡ edge_before (get_or l (c.place - (places.edge_width + edge_span)) 0) (get_or l (c.place - places.edge_width) 0) (get_or l (c.place - edge_span) 0) (get_or l c.place 0) → t ≡ ascends l c
    unfolding ascends
    edge_ascends q t e = e ∙ simp (later_item, eq-eqb c.row rows.to q)

    module _ (m : c.row ≡ rows.to → ⊥) where
      pub loop_ascends : c.row ≡ rows.bound → ltb (get_or l (c.place - (places.loop_width + loop_span)) 0) (get_or l (c.place - loop_span) 0) ≡ ascends l c
      unfolding ascends
      loop_ascends q = simp (later_item, ne_eqb c.row rows.to m, eq-eqb c.row rows.bound q)

      pub no_order : (c.row ≡ rows.bound → ⊥) → true ≡ ascends l c
      unfolding ascends
      no_order q = simp (later_item, ne_eqb c.row rows.to m, ne_eqb c.row rows.bound q)

-- A number that is not an item's last breaks no order.
pub within_item : (l : List ℕ) (c : Field) (k : ℕ) → k ≡ kind c.row → (k ≡ last_kind → ⊥) → true ≡ ascends l c
unfolding ascends kinds
within_item l c k is n =
    by_bool (eqb c.place (base c.row)) (λ e. simp e)
    (λ e. simp (e, ne_eqb c.row rows.to (λ q. n (is ∙ ap kind q)), ne_eqb c.row rows.bound (λ q. n (is ∙ ap kind q))))

-- An item's last number has the numbers before it that the order looks at.
pub edge_place : (row place : ℕ) → base row ≤ place → row ≡ rows.to → places.edge_width + edge_span ≤ place
unfolding bases
edge_place row place h q = let e : base row ≡ places.to = rw q in omega arith

pub loop_place : (row place : ℕ) → base row ≤ place → row ≡ rows.bound → places.loop_width + loop_span ≤ place
unfolding bases
loop_place row place h q = let e : base row ≡ places.bound = rw q in omega arith

pub last_place : (row place : ℕ) → base row ≤ place → row ≡ rows.last → places.last - places.header ≤ place
unfolding bases
last_place row place h q = let e : base row ≡ places.last = rw q in omega arith
