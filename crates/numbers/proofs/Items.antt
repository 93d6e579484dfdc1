-- Laws of reading items back: an item from a list that holds the numbers of many, and the numbers of a table of items.
use Prim.Native.Nat.{ℕ, zero, suc, ◌+◌, ◌*◌, ◌≤◌, ◌<◌}
use mathlib.Core.Path.{◌≡◌, refl, sym, ap, ◌∙◌}
use mathlib.Core.List.{List, [], ◌∷◌, ◌++◌, flat_map, append_assoc}
use native.Mathlib.Omega.{arith}
use native.Mathlib.Nat.{le_of_suc-le-suc, mul-le-mul_left, mul-suc}
use lib.ListN.{length, get_or, take, drop, length-drop, take-append-drop, get_or-append}
use lib.Seq.{drop-drop, drop_at, drop-cons, get_or-take, get_or-drop, get_or-append-add, length-take-le, ext_get_or}
use borrow.Author.Count.{below_none, below_more}
use Rattle.model.specs.Numbers.{table, table_from}

-- What stands behind a part of a list.
pub drop_behind : (l xs ys : List ℕ) (i j : ℕ) → drop i l ≡ xs ++ ys → i + length xs ≡ j → drop j l ≡ ys
drop_behind l xs ys i j e place =
    ap (λ (k : ℕ). drop k l) (sym place)
    ∙ sym (drop-drop (length xs) i l)
    ∙ ap (λ (r : List ℕ). drop (length xs) r) e
    ∙ drop_at xs ys (length xs) refl

pub head_of : (l : List ℕ) (i x : ℕ) (ys : List ℕ) → drop i l ≡ x ∷ ys → get_or l i 0 ≡ x
head_of l i x ys e = ap (λ (k : ℕ). get_or l k 0) (omega arith) ∙ sym (get_or-drop i l 0 0) ∙ ap (λ (r : List ℕ). get_or r 0 0) e

module _ {A : Type 0} (f : A → List ℕ) (w : ℕ) (wide : (a : A) → length (f a) ≡ w) where
  -- The j-th number of the i-th item.
  get_or-flat_map : (xs : List A) (ys : List ℕ) (i j : ℕ) (d : A) → i < length xs → j < w →
      get_or (flat_map f xs ++ ys) (w * i + j) 0 ≡ get_or (f (get_or xs i d)) j 0
  unfolding flat_map
  get_or-flat_map [] ys i j d h h' = let z : ⊥ = omega arith in elim z [ ]
  get_or-flat_map (x ∷ xs) ys zero j d h h' =
      ap (λ (k : ℕ). get_or ((f x ++ flat_map f xs) ++ ys) k 0) (omega arith)
      ∙ ap (λ (r : List ℕ). get_or r j 0) (append_assoc (f x) (flat_map f xs) ys)
      ∙ get_or-append (f x) (flat_map f xs ++ ys) 0 j (omega (arith, wide x))
  get_or-flat_map (x ∷ xs) ys (suc i) j d h h' =
      ap (λ (k : ℕ). get_or ((f x ++ flat_map f xs) ++ ys) k 0) (omega (arith, wide x, mul-suc w i))
      ∙ ap (λ (r : List ℕ). get_or r (length (f x) + (w * i + j)) 0) (append_assoc (f x) (flat_map f xs) ys)
      ∙ get_or-append-add (f x) (flat_map f xs ++ ys) (w * i + j) 0
      ∙ get_or-flat_map xs ys i j d (le_of_suc-le-suc h) h'

  pub item_number : (l : List ℕ) (base : ℕ) (xs : List A) (ys : List ℕ) → drop base l ≡ flat_map f xs ++ ys → (i j : ℕ) (d : A) → i < length xs → j < w →
      get_or l ((j + base) + w * i) 0 ≡ get_or (f (get_or xs i d)) j 0
  item_number l base xs ys e i j d h h' =
      ap (λ (k : ℕ). get_or l k 0) (omega arith)
      ∙ sym (get_or-drop base l (w * i + j) 0)
      ∙ ap (λ (r : List ℕ). get_or r (w * i + j) 0) e
      ∙ get_or-flat_map xs ys i j d h h'

-- A table of items that have the numbers of l from the base on, w each.
module _ {A : Type 0} (f : A → List ℕ) (w : ℕ) (wide : (a : A) → length (f a) ≡ w) (l : List ℕ) (base : ℕ) (at : ℕ → A) where
  abbrev Same : Type 0
  Same = (k j : ℕ) → j < w → get_or (f (at k)) j 0 ≡ get_or l ((j + base) + w * k) 0

  -- One item and what stands behind it.
  one_item : Same → (k : ℕ) → base + w * k + w ≤ length l → f (at k) ++ drop (base + w * (k + 1)) l ≡ drop (base + w * k) l
  one_item same k fits =
      let here : ℕ = base + w * k in
      let long : length (take w (drop here l)) ≡ w = length-take-le w (drop here l) (simp length-drop (omega arith)) in
      let is : f (at k) ≡ take w (drop here l) =
      ext_get_or 0 (f (at k)) (take w (drop here l)) (wide (at k) ∙ sym long)
      (λ j h.
      let lt : j < w = omega (arith, wide (at k)) in
      same k j lt ∙ ap (λ (i : ℕ). get_or l i 0) (omega arith) ∙ sym (get_or-take w (drop here l) j 0 lt ∙ get_or-drop here l j 0)) in
      let next : base + w * (k + 1) ≡ here + w = omega (arith, mul-suc w k) in
      ap (λ (r : List ℕ). r ++ drop (base + w * (k + 1)) l) is
      ∙ ap (λ (r : List ℕ). take w (drop here l) ++ r) (ap (λ (i : ℕ). drop i l) next ∙ sym (drop-drop w here l))
      ∙ take-append-drop w (drop here l)

  module _ (same : Same) (n : ℕ) (fits : base + w * n ≤ length l) where
    flat_from : (m i : ℕ) → i + m ≡ n → flat_map f (table_from m i at) ++ drop (base + w * n) l ≡ drop (base + w * i) l
    unfolding flat_map table_from
    flat_from zero i e = ap (λ (k : ℕ). drop (base + w * k) l) (omega arith)
    flat_from (suc m) i e =
        let few : i + 1 ≤ n = omega arith in
        append_assoc (f (at i)) (flat_map f (table_from m (i + 1) at)) (drop (base + w * n) l)
        ∙ ap (λ (r : List ℕ). f (at i) ++ r) (flat_from m (i + 1) (omega arith))
        ∙ one_item same i (omega (arith, mul-le-mul_left w few, mul-suc w i))

    pub flat_table : flat_map f (table n at) ++ drop (base + w * n) l ≡ drop base l
    flat_table =
        let start : base + w * 0 ≡ base = omega arith in
        flat_from n 0 (omega arith) ∙ ap (λ (k : ℕ). drop k l) start

-- The numbers of an item are told one by one.
module _ (P : ℕ → ℕ → Type 0) (first : (k : ℕ) → P k 0) (second : (k : ℕ) → P k 1) where
  pub two_numbers : (k j : ℕ) → j < 2 → P k j
  two_numbers k = below_more (P k) 1 (below_more (P k) 0 (below_none (P k)) (first k)) (second k)

  pub three_numbers : ((k : ℕ) → P k 2) → (k j : ℕ) → j < 3 → P k j
  three_numbers third k = below_more (P k) 2 (two_numbers k) (third k)

-- A number before what stands behind it.
pub cons_drop : (l : List ℕ) (k x : ℕ) (ys : List ℕ) → k < length l → x ≡ get_or l k 0 → ys ≡ drop (suc k) l → x ∷ ys ≡ drop k l
cons_drop l k x ys h e e' = (λ i. e i ∷ e' i) ∙ sym (drop-cons l k 0 h)
