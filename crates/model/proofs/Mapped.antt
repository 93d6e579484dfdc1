-- Laws of `flat_map` along a list: one item more, and items that give nothing.
use Prim.Native.Nat.{ℕ, zero, suc, ◌+◌, ◌≤◌, ◌<◌}
use mathlib.Core.Path.{◌≡◌, refl, sym, ap, ◌∙◌}
use mathlib.Core.List.{List, [], ◌∷◌, ◌++◌, flat_map, append_assoc, append-nil}
use native.Mathlib.Omega.{arith}
use native.Mathlib.Nat.{add-zero}
use native.Mathlib.Numerals.{add-one}
use lib.ListN.{length, get_or, take}
use lib.Seq.{take-suc}

module _ {A B : Type 0} (f : A → List B) where
  pub flat_map-append : (xs ys : List A) → flat_map f (xs ++ ys) ≡ flat_map f xs ++ flat_map f ys
  unfolding flat_map
  flat_map-append [] ys = refl
  flat_map-append (x ∷ xs) ys = ap (λ (r : List B). f x ++ r) (flat_map-append xs ys) ∙ sym (append_assoc (f x) (flat_map f xs) (flat_map f ys))

  pub flat_map_one : (x : A) → flat_map f (x ∷ []) ≡ f x
  unfolding flat_map
  flat_map_one x = append-nil (f x)

  pub flat_map_more : (xs : List A) (i : ℕ) (d : A) → i < length xs → flat_map f (take (i + 1) xs) ≡ flat_map f (take i xs) ++ f (get_or xs i d)
  flat_map_more xs i d h =
      ap (λ (r : List A). flat_map f r) (ap (λ (k : ℕ). take k xs) (add-one i) ∙ take-suc xs i d h)
      ∙ flat_map-append (take i xs) (get_or xs i d ∷ [])
      ∙ ap (λ (r : List B). flat_map f (take i xs) ++ r) (flat_map_one (get_or xs i d))

  -- The n items from a on give nothing.
  pub flat_map_none : (xs : List A) (a n : ℕ) (d : A) → a + n ≤ length xs → ((k : ℕ) → a ≤ k → k < a + n → f (get_or xs k d) ≡ []) →
      flat_map f (take (a + n) xs) ≡ flat_map f (take a xs)
  flat_map_none xs a zero d h none = ap (λ (k : ℕ). flat_map f (take k xs)) (add-zero a)
  flat_map_none xs a (suc n) d h none =
      let e : a + suc n ≡ a + n + 1 = omega arith in
      ap (λ (k : ℕ). flat_map f (take k xs)) e
      ∙ flat_map_more xs (a + n) d (omega arith)
      ∙ ap (λ (r : List B). flat_map f (take (a + n) xs) ++ r) (none (a + n) (omega arith) (omega arith))
      ∙ append-nil (flat_map f (take (a + n) xs))
      ∙ flat_map_none xs a n d (omega arith) (λ k low high. none k low (omega arith))

  -- No item gives anything, or one alone does.
  pub flat_map_nothing : (xs : List A) (d : A) → ((k : ℕ) → k < length xs → f (get_or xs k d) ≡ []) → flat_map f xs ≡ []
  unfolding flat_map
  flat_map_nothing [] d none = refl
  flat_map_nothing (x ∷ xs) d none = rw (none 0 (omega arith)) (flat_map_nothing xs d (λ k h. none (suc k) (omega arith)))

  pub flat_map_only : (xs : List A) (i : ℕ) (d : A) → i < length xs → ((k : ℕ) → k < length xs → (k ≡ i → ⊥) → f (get_or xs k d) ≡ []) → flat_map f xs ≡ f (get_or xs i d)
  unfolding flat_map
  flat_map_only [] i d h others = let z : ⊥ = omega arith in elim z [ ]
  flat_map_only (x ∷ xs) zero d h others =
      ap (λ (r : List B). f x ++ r) (flat_map_nothing xs d (λ k lt. others (suc k) (omega arith) (λ e. let z : ⊥ = omega arith in elim z [ ])))
      ∙ append-nil (f x)
  flat_map_only (x ∷ xs) (suc i) d h others =
      rw (others 0 (omega arith) (λ e. let z : ⊥ = omega arith in elim z [ ]))
      (flat_map_only xs i d (omega arith) (λ k lt ne. others (suc k) (omega arith) (λ e. ne (omega arith))))
