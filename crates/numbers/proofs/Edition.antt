-- An array that is filled with the edition and then the fields holds the numbers `1 ∷ fields`.
use Prim.Native.Nat.{ℕ, suc, ◌+◌, ◌≤◌, ◌<◌}
use mathlib.Core.Path.{◌≡◌, refl, sym, ap, ◌∙◌}
use mathlib.Core.List.{List, ◌∷◌}
use native.Mathlib.Omega.{arith}
use native.Mathlib.Numerals.{add-one}
use lib.ListN.{length, get_or, set, replicate}
use Rattle.model.proofs.Lists.{is_table}
use Rattle.model.proofs.Filling.{FilledTo, filled_none, filled_more, filled_all}
use Rattle.model.specs.Places as places

module _ (fields : List ℕ) where
  -- The first i numbers after the edition are in place.
  pub record WithEdition (i : ℕ) (out : List ℕ) : Type 0 where
    pub long : length fields ≡ places.field_count
    pub filled : FilledTo (λ k. get_or (1 ∷ fields) k 0) places.end (i + 1) 0 out

  pub with_none : length fields ≡ places.field_count → WithEdition 0 (set (replicate places.end 0) 0 1)
  with_none long = record { long = long; filled = filled_more _ places.end 0 0 _ (omega arith) (filled_none _ places.end 0) }

  pub with_more : (i : ℕ) (out : List ℕ) → i < places.field_count → WithEdition i out → WithEdition (i + 1) (set out (i + 1) (get_or fields i 0))
  with_more i out h w =
      let same : get_or (1 ∷ fields) (i + 1) 0 ≡ get_or fields i 0 = rw add-one in
      record { long = w.long; filled = rw same at (filled_more _ places.end (i + 1) 0 out (omega arith) w.filled) }

  pub with_all : (i : ℕ) (out : List ℕ) → places.field_count ≤ i → WithEdition i out → out ≡ 1 ∷ fields
  with_all i out h w =
      filled_all _ places.end (i + 1) 0 out (omega arith) w.filled
      ∙ sym (is_table places.end (λ (k : ℕ). get_or (1 ∷ fields) k 0) 0 (1 ∷ fields) (ap suc w.long) (λ k lt. refl))
