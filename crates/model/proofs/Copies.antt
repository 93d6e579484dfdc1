-- A part stored in a list one number after another.
use Prim.Native.Nat.{ℕ, ◌+◌, ◌≤◌, ◌<◌}
use mathlib.Core.Path.{◌≡◌, refl, sym, ap, ◌∙◌}
use mathlib.Core.List.{List, [], ◌∷◌}
use native.Mathlib.Omega.{arith}
use native.Mathlib.Numerals.{add-one}
use lib.ListN.{length, get_or, set, take, length-set}
use lib.Seq.{sets, take-suc, take_all, length-take-le}
use Rattle.model.proofs.Lists.{stored_behind}

module _ (l₀ : List ℕ) (at : ℕ) (part : List ℕ) where
  -- The first i numbers are stored.
  pub record CopiedTo (i : ℕ) (l : List ℕ) : Type 0 where
    pub within : i ≤ length part
    pub size : length l ≡ length l₀
    pub is : l ≡ sets l₀ at (take i part)

  pub copied_none : CopiedTo 0 l₀
  copied_none = record { within = omega arith; size = refl; is = refl }

  pub copied_more : (i : ℕ) (l : List ℕ) → i < length part → CopiedTo i l → CopiedTo (i + 1) (set l (at + i) (get_or part i 0))
  copied_more i l h s =
      record {
        within = omega arith;
        size = length-set l (at + i) (get_or part i 0) ∙ s.size;
        is =
            stored_behind l₀ l _ at (at + i) (take i part) (get_or part i 0 ∷ []) s.is (ap (λ (n : ℕ). at + n) (length-take-le i part s.within)) refl
            ∙ ap (sets l₀ at) (sym (ap (λ (n : ℕ). take n part) (add-one i) ∙ take-suc part i 0 h));
      }

  pub copied_all : (i : ℕ) (l : List ℕ) → length part ≤ i → CopiedTo i l → l ≡ sets l₀ at part
  copied_all i l h s = s.is ∙ ap (sets l₀ at) (take_all i part h)
