-- Laws of lists: what stands in a table and in its first part, membership by index, lists of one value, and one part written behind another.
use Prim.Native.Nat.{ℕ, zero, suc, ◌+◌, ◌≤◌, ◌<◌}
use mathlib.Core.Path.{◌≡◌, refl, sym, ap, ◌∙◌}
use mathlib.Core.List.{List, [], ◌∷◌, ◌++◌, Memᴰ}
use native.Mathlib.Omega.{arith}
use native.Mathlib.Nat.{zero-add, add-zero}
use lib.ListN.{length, get_or, take, set, replicate}
use lib.Seq.{get_or-take, length-take-le, ext_get_or, sets}
use Rattle.model.specs.Numbers.{table, table_from}

module _ {A : Type 0} where
  length-table_from : (n i : ℕ) (f : ℕ → A) → length (table_from n i f) ≡ n
  unfolding table_from
  length-table_from zero i f = refl
  length-table_from (suc n) i f = ap suc (length-table_from n (i + 1) f)

  get_or-table_from : (n i : ℕ) (f : ℕ → A) (j : ℕ) (d : A) → j < n → get_or (table_from n i f) j d ≡ f (i + j)
  unfolding table_from
  get_or-table_from zero i f j d h = let z : ⊥ = omega arith in elim z [ ]
  get_or-table_from (suc n) i f zero d h = let e : i ≡ i + zero = omega arith in ap f e
  get_or-table_from (suc n) i f (suc j) d h = let e : i + 1 + j ≡ i + suc j = omega arith in get_or-table_from n (i + 1) f j d (omega arith) ∙ ap f e

  pub length-table : (n : ℕ) (f : ℕ → A) → length (table n f) ≡ n
  length-table n f = length-table_from n 0 f

  pub get_or-table : (n : ℕ) (f : ℕ → A) (i : ℕ) (d : A) → i < n → get_or (table n f) i d ≡ f i
  get_or-table n f i d h = get_or-table_from n 0 f i d h ∙ ap f (zero-add i)

  -- A list of which each item is the table's is the table.
  pub is_table : (n : ℕ) (f : ℕ → A) (d : A) (xs : List A) → length xs ≡ n → ((k : ℕ) → k < n → get_or xs k d ≡ f k) → xs ≡ table n f
  is_table n f d xs long same =
      ext_get_or d xs (table n f) (long ∙ sym (length-table n f))
      (λ k lt. same k (omega arith) ∙ sym (get_or-table n f k d (omega arith)))

  -- The first `count` values of a table.
  pub length-take-table : (count n : ℕ) (f : ℕ → A) → count ≤ n → length (take count (table n f)) ≡ count
  length-take-table count n f h = length-take-le count (table n f) (omega (arith, length-table n f))

  pub get_or-take-table : (count n : ℕ) (f : ℕ → A) (i : ℕ) (d : A) → count ≤ n → i < count → get_or (take count (table n f)) i d ≡ f i
  get_or-take-table count n f i d h k = get_or-take count (table n f) i d k ∙ get_or-table n f i d (omega arith)

  pub mem-get_or : (s : List A) (i : ℕ) (d : A) → i < length s → Memᴰ (get_or s i d) s
  mem-get_or [] i d h = let z : ⊥ = omega arith in elim z [ ]
  mem-get_or (x ∷ s) zero d h = Memᴰ.head refl
  mem-get_or (x ∷ s) (suc i) d h = Memᴰ.tail (mem-get_or s i d (omega arith))

  pub index_of : {a : A} {s : List A} (d : A) → Memᴰ a s → (i : ℕ) × (i < length s) × (get_or s i d ≡ a)
  index_of d (Memᴰ.head e) = (0, omega arith, sym e)
  index_of d (Memᴰ.tail m) = let r = index_of d m in (suc r.0, omega (arith, r.1), r.2)

  -- A list of one value has it at every place, also behind its end.
  pub get_or-replicate_self : (n k : ℕ) (x : A) → get_or (replicate n x) k x ≡ x
  get_or-replicate_self zero k x = refl
  get_or-replicate_self (suc n) zero x = refl
  get_or-replicate_self (suc n) (suc k) x = get_or-replicate_self n k x

  -- One part written behind another.
  pub sets-append : (xs ys l : List A) (i : ℕ) → sets l i (xs ++ ys) ≡ sets (sets l i xs) (i + length xs) ys
  sets-append [] ys l i = rw add-zero
  sets-append (x ∷ xs) ys l i =
      let e : suc i + length xs ≡ i + suc (length xs) = omega arith in
      sets-append xs ys (set l i x) (suc i) ∙ (rw e)

-- Two lists stored, the second behind the first.
pub stored_behind : (l₀ l l' : List ℕ) (i j : ℕ) (xs ys : List ℕ) → l ≡ sets l₀ i xs → i + length xs ≡ j → l' ≡ sets l j ys → l' ≡ sets l₀ i (xs ++ ys)
stored_behind l₀ l l' i j xs ys e place e' =
    e'
    ∙ ap (λ (m : List ℕ). sets m j ys) e
    ∙ ap (λ (k : ℕ). sets (sets l₀ i xs) k ys) (sym place)
    ∙ sym (sets-append xs ys l₀ i)
