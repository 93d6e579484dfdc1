-- The fields of a list of items: where its count is reached, every number of every item is, and what follows the list.
use Prim.Native.Nat.{ℕ, zero, suc, ◌+◌, ◌-◌, ◌*◌, ◌≤◌, ◌<◌}
use mathlib.Core.Path.{◌≡◌, refl, sym, ap}
use mathlib.Core.List.{List}
use mathlib.Core.Bool.{true, false}
use native.Mathlib.Omega.{arith}
use native.Mathlib.Nat.{mul-suc, mul-zero, mul-le-mul_left}
use lib.ListN.{get_or}
use lib.Dec.{eqb}
use borrow.Author.Tests.{eqb-true, eqb-false}
use Rattle.model.specs.declared.Field.{Field}
use Rattle.model.specs.Table.{base, kind, jump, count_kind, last_kind}
use Rattle.model.specs.File.{row_start, after_item, in_use}
use Rattle.model.proofs.Cases.{by_bool}
use Rattle.fields.specs.Valid.{field}
use Rattle.fields.proofs.Laws.{empty_list, open_list, past_list, next_item, next_counted, next_ended, next_within}
use Rattle.fields.proofs.OneField.{Passed}
use Rattle.facts.proofs.Good.{next}
use Rattle.facts.proofs.Reach.{Reached, Gap, passed, step}
use Rattle.model.specs.Rows as rows

-- A row that counts items, whose numbers have the next `width` rows, and the places that they use of those up to the next list's.
pub record Listed (l : List ℕ) (row width : ℕ) : Type 0 where
  pub inside : row + width < rows.end
  pub some : 0 < width
  pub counts : kind row ≡ count_kind
  pub passes : jump row ≡ row + width + 1
  pub within : (j : ℕ) → suc j < width → (count_kind < kind (row + 1 + j)) × (kind (row + 1 + j) < last_kind)
  pub ends : kind (row + width) ≡ last_kind
  pub again : jump (row + width) ≡ row + 1
  pub used : (k : ℕ) → base row ≤ k → k ≤ base row + width * get_or l (base row) 0 → in_use l k ≡ true
  pub spare : (k : ℕ) → base row + width * get_or l (base row) 0 < k → k < base (row + width + 1) → in_use l k ≡ false

module _ (l : List ℕ) where
  -- A reached field, written in another way.
  same : {row row' place place' left left' : ℕ} → Reached l (field row place left) → row ≡ row' → place ≡ place' → left ≡ left' →
      Reached l (field row' place' left')
  same r p q s = rw (← p, ← q, ← s) r

  -- No place stands between a place and the one after it.
  pub beside : (c d : Field) → in_use l c.place ≡ true → d.place ≡ c.place + 1 → Gap l c d
  beside c d u e = record { used = u; spare = λ k h q. let z : ⊥ = omega arith in elim z [ ] }

  module _ (row width : ℕ) (list : Listed l row width) (start : Reached l (row_start row)) where
    -- How many items there are, and the j-th number of item i.
    abbrev count : ℕ
    count = get_or l (base row) 0

    abbrev spot : ℕ → ℕ → Field
    spot i j = field (row + 1 + j) (base row + 1 + width * i + j) (count - 1 - i)

    -- An item's places are in use.
    item_used : (i j : ℕ) → i < count → j < width → in_use l (base row + 1 + width * i + j) ≡ true
    item_used i j h k =
        list.used _ (omega arith) (omega (arith, mul-suc width i, mul-le-mul_left width h))

    opened : 0 < count → Reached l (spot 0 0)
    opened h =
        let c : Field = row_start row in
        let e = next_counted c count (kind row) refl _ (open_list c count (omega arith)) list.counts in
        same
        (step l e start (omega (arith, list.inside)) (beside c _ (list.used _ (omega arith) (omega arith)) refl))
        (omega arith)
        (omega (arith, mul-zero width))
        (omega arith)

    along : (i j : ℕ) → i < count → Reached l (spot i 0) → j < width → Reached l (spot i j)
    along i zero h r k = r
    along i (suc j) h r k =
        let c : Field = spot i j in
        let q = list.within j k in
        let e = next_within c (get_or l c.place 0) (kind c.row) refl (omega (arith, q)) (omega (arith, q)) in
        same
        (step l e (along i j h r (omega arith)) (omega (arith, list.inside)) (beside c _ (item_used i j h (omega arith)) refl))
        (omega arith)
        (omega arith)
        refl

    -- The last number of item i.
    abbrev ending : ℕ → Field
    ending i = field (row + width) (base row + width * suc i) (count - 1 - i)

    ended : (i : ℕ) → i < count → Reached l (spot i 0) → Reached l (ending i)
    ended i h r =
        same (along i (width - 1) h r (omega (arith, list.some))) (omega (arith, list.some)) (omega (arith, list.some, mul-suc width i)) refl

    ending_used : (i : ℕ) → i < count → in_use l (base row + width * suc i) ≡ true
    ending_used i h = list.used _ (omega arith) (omega (arith, mul-le-mul_left width h))

    after : (i : ℕ) (d : Field) → d ≡ after_item (ending i) → d ≡ next l (ending i)
    after i d e =
        let c : Field = ending i in
        next_ended c (get_or l c.place 0) (kind c.row) refl (omega (arith, list.ends)) d e list.ends

    items : (i : ℕ) → i < count → Reached l (spot i 0)
    items zero h = opened h
    items (suc i) h =
        let c : Field = ending i in
        let e = after i _ (next_item c 0 (jump c.row) refl (omega arith)) in
        same
        (step l e (ended i (omega arith) (items i (omega arith))) list.inside (beside c _ (ending_used i (omega arith)) refl))
        (omega (arith, list.again))
        (omega arith)
        (omega arith)

    pub item : (i j : ℕ) → i < count → j < width → Passed l (field (row + 1 + j) (base row + 1 + width * i + j) (count - 1 - i))
    item i j h k = passed l (along i j h (items i h) k) (omega (arith, list.inside))

    pub following : Reached l (row_start (row + width + 1))
    following =
        by_bool (eqb count 0) (λ t. empty (eqb-true count 0 t)) (λ t. past (omega (arith, eqb-false count 0 t)))
      where
        empty : count ≡ 0 → Reached l (row_start (row + width + 1))
        empty none =
            let c : Field = row_start row in
            let e = next_counted c count (kind row) refl _ (empty_list c count (row + width + 1) (base (row + width + 1)) (sym list.passes) refl none) list.counts in
            step l e start (omega (arith, list.inside))
            (record { used = list.used _ (omega arith) (omega arith); spare = λ k h q. list.spare k (omega (arith, ap (λ (n : ℕ). width * n) none, mul-zero width)) q })

        past : 0 < count → Reached l (row_start (row + width + 1))
        past h =
            let i : ℕ = count - 1 in
            let all : suc i ≡ count = omega arith in
            let c : Field = ending i in
            let e = after i _ (past_list c 0 (base (row + width + 1)) refl (omega arith)) in
            step l e (ended i (omega arith) (items i (omega arith))) list.inside
            (record { used = ending_used i (omega arith); spare = λ k b q. list.spare k (omega (arith, ap (λ (n : ℕ). width * n) all)) q })
