-- Lists made part by part: what their members are, and that they ascend where their parts do.
use Prim.Native.Nat.{ℕ, zero, suc, ◌<◌}
use mathlib.Core.Path.{refl, sym, subst}
use mathlib.Core.List.Memᴰ
use mathlib.Core.List.{List, [], ◌∷◌, ◌++◌, flat_map, Memᴰ}
use mathlib.Core.Logic.{◌⊎◌, inl, inr}
use native.Mathlib.Omega.{arith}
use lib.ListN.{length, get_or}
use Rattle.model.specs.Numbers.{table}
use Rattle.model.proofs.Lists.{mem-get_or, index_of, length-table, get_or-table}

not_in_none : {A : Type 0} {P : Type 0} {a : A} → Memᴰ a [] → P
not_in_none m = elim m [ ]

module _ {A B : Type 0} (parts : A → List B) where
  -- A member of a list made part by part is a member of a part, and the other way round.
  pub in_part : (s : List A) (b : B) → Memᴰ b (flat_map parts s) → (a : A) × Memᴰ a s × Memᴰ b (parts a)
  unfolding flat_map
  in_part [] b m = not_in_none m
  in_part (a ∷ s) b m = sides (Memᴰ.append_cases (parts a) m) (in_part s b)
    where
      sides : Memᴰ b (parts a) ⊎ Memᴰ b (flat_map parts s) → (Memᴰ b (flat_map parts s) → (x : A) × Memᴰ x s × Memᴰ b (parts x))
          → (x : A) × Memᴰ x (a ∷ s) × Memᴰ b (parts x)
      sides (inl n) later = (a, Memᴰ.head refl, n)
      sides (inr n) later = let r = later n in (r.0, Memᴰ.tail r.1, r.2)

  pub part_in : (s : List A) (a : A) (b : B) → Memᴰ a s → Memᴰ b (parts a) → Memᴰ b (flat_map parts s)
  unfolding flat_map
  part_in (x ∷ s) a b (Memᴰ.head e) n = Memᴰ.append_left (flat_map parts s) (subst (λ (y : A). Memᴰ b (parts y)) e n)
  part_in (x ∷ s) a b (Memᴰ.tail m) n = Memᴰ.append_right (parts x) (part_in s a b m n)
  part_in [] a b x'' n = elim x'' [ ]

-- Each item stands before all later ones.
module _ {A : Type 0} (Before : A → A → Type 0) where
  abbrev pub Above : A → List A → Type 0
  Above a s = (b : A) → Memᴰ b s → Before a b

  unfoldable pub Ascending : List A → Type 0
  Ascending [] = Unit {0}
  Ascending (a ∷ s) = Above a s × Ascending s

  pub ascending_both : (s t : List A) → Ascending s → Ascending t → ((a b : A) → Memᴰ a s → Memᴰ b t → Before a b) → Ascending (s ++ t)
  unfolding Ascending
  ascending_both [] t p q r = q
  ascending_both (a ∷ s) t p q r = (λ b m. above b (Memᴰ.append_cases s m), ascending_both s t p.1 q (λ x y m n. r x y (Memᴰ.tail m) n))
    where
      above : (b : A) → Memᴰ b s ⊎ Memᴰ b t → Before a b
      above b (inl m) = p.0 b m
      above b (inr m) = r a b (Memᴰ.head refl) m

  -- By index.
  pub ascending_pair : (d : A) (s : List A) (i j : ℕ) → Ascending s → i < j → j < length s → Before (get_or s i d) (get_or s j d)
  unfolding Ascending
  ascending_pair d [] i j p l h = let z : ⊥ = omega arith in elim z [ ]
  ascending_pair d (a ∷ s) i zero p l h = let z : ⊥ = omega arith in elim z [ ]
  ascending_pair d (a ∷ s) zero (suc j) p l h = p.0 (get_or s j d) (mem-get_or s j d (omega arith))
  ascending_pair d (a ∷ s) (suc i) (suc j) p l h = ascending_pair d s i j p.1 (omega arith) (omega arith)

  module _ (d : A) (through : (a b c : A) → Before a b → Before b c → Before a c) where
    below_all : (a : A) (s : List A) → (0 < length s → Before a (get_or s 0 d)) → ((i : ℕ) → suc i < length s → Before (get_or s i d) (get_or s (suc i) d)) → Above a s
    below_all a [] first next b m = not_in_none m
    below_all a (x ∷ s) first next b (Memᴰ.head e) = subst (Before a) (sym e) (first (omega arith))
    below_all a (x ∷ s) first next b (Memᴰ.tail m) =
        below_all a s (λ h. through a x (get_or s 0 d) (first (omega arith)) (next 0 (omega arith))) (λ i h. next (suc i) (omega arith)) b m

    pub next_ascending : (s : List A) → ((i : ℕ) → suc i < length s → Before (get_or s i d) (get_or s (suc i) d)) → Ascending s
    unfolding Ascending
    next_ascending [] next = tt
    next_ascending (a ∷ s) next = (below_all a s (λ h. next 0 (omega arith)) (λ i h. next (suc i) (omega arith)), next_ascending s (λ i h. next (suc i) (omega arith)))

-- A list made part by part ascends where its parts do, one after another.
module _ {A B : Type 0} (Before : A → A → Type 0) (After : B → B → Type 0) (parts : A → List B) where
  pub ascending_parts : (s : List A) → Ascending Before s → ((a : A) → Memᴰ a s → Ascending After (parts a))
      → ((a b : A) (x y : B) → Memᴰ a s → Memᴰ b s → Before a b → Memᴰ x (parts a) → Memᴰ y (parts b) → After x y)
      → Ascending After (flat_map parts s)
  unfolding flat_map Ascending
  ascending_parts [] p each across = tt
  ascending_parts (a ∷ s) p each across =
      ascending_both After (parts a) (flat_map parts s) (each a (Memᴰ.head refl))
      (ascending_parts s p.1 (λ b m. each b (Memᴰ.tail m)) (λ x y b c m n. across x y b c (Memᴰ.tail m) (Memᴰ.tail n)))
      (λ x y m n. let r = in_part parts s y n in across a r.0 x y (Memᴰ.head refl) (Memᴰ.tail r.1) (p.0 r.0 r.1) m r.2)

-- The numbers below n, in turn.
pub below_in : (n i : ℕ) → i < n → Memᴰ i (table n (λ j. j))
below_in n i h = subst (λ (j : ℕ). Memᴰ j (table n (λ k. k))) (get_or-table n (λ k. k) i 0 h) (mem-get_or (table n (λ k. k)) i 0 (omega (arith, length-table n (λ (k : ℕ). k))))

pub in_below : (n i : ℕ) → Memᴰ i (table n (λ j. j)) → i < n
in_below n i m =
    let r = index_of 0 m in
    let h : r.0 < n = omega (arith, r.1, length-table n (λ (k : ℕ). k)) in
    omega (arith, r.2, get_or-table n (λ (k : ℕ). k) r.0 0 h, h)

pub table_ascends : (n : ℕ) → Ascending ◌<◌ (table n (λ j. j))
table_ascends n = next_ascending ◌<◌ 0 (λ a b c p q. omega arith) (table n (λ j. j)) (λ i h.
    let size = length-table n (λ (k : ℕ). k) in
    omega (arith, get_or-table n (λ (k : ℕ). k) i 0 (omega arith), get_or-table n (λ (k : ℕ). k) (suc i) 0 (omega arith)))
