-- Spellings as they are read, computed. Bytes are decimal here: 128, 130, 133, 172 and 255 are 80, 82, 85, AC and FF in hexadecimal.
use Prim.Native.Nat.{ℕ}
use Rattle.std.specs.Prelude.{Err, Ok, Result}
use Rattle.model.specs.declared.Misread.{Misread}
use Rattle.model.specs.declared.Misread.TheVariants.{Ended, Misspelt}
use mathlib.Core.Path.{◌≡◌, refl}
use mathlib.Core.List.{List, [], ◌∷◌, map}
use Rattle.model.specs.Spelling.{read_groups, read_number}

-- The number at the front of each row of bytes, and where it ends.
abbrev pub fronts : List (List ℕ) → List (Result (ℕ × ℕ) Misread)
fronts = map (λ (s : List ℕ). read_number s 0)

-- 5, 0 and 300, short and padded.
pub padded : fronts
    ((5 ∷ []) ∷ (133 ∷ 0 ∷ []) ∷ (133 ∷ 128 ∷ 0 ∷ []) ∷ (133 ∷ 128 ∷ 128 ∷ 128 ∷ 0 ∷ []) ∷ (0 ∷ []) ∷ (128 ∷ 0 ∷ []) ∷ (128 ∷ 128 ∷ 128 ∷ 128 ∷ 0 ∷ [])
    ∷ (172 ∷ 2 ∷ []) ∷ (172 ∷ 130 ∷ 0 ∷ []) ∷ (172 ∷ 130 ∷ 128 ∷ 128 ∷ 0 ∷ []) ∷ [])
    ≡ Ok (5, 1) ∷ Ok (5, 2) ∷ Ok (5, 3) ∷ Ok (5, 5) ∷ Ok (0, 1) ∷ Ok (0, 2) ∷ Ok (0, 5) ∷ Ok (300, 2) ∷ Ok (300, 3) ∷ Ok (300, 5) ∷ []
unfolding read_groups
padded = refl

-- A fifth byte up to 0F, above it, and with its high bit, where a sixth is not looked at.
pub fifth_bytes : fronts
    ((128 ∷ 128 ∷ 128 ∷ 128 ∷ 15 ∷ []) ∷ (255 ∷ 255 ∷ 255 ∷ 255 ∷ 15 ∷ []) ∷ (128 ∷ 128 ∷ 128 ∷ 128 ∷ 16 ∷ []) ∷ (255 ∷ 255 ∷ 255 ∷ 255 ∷ 31 ∷ [])
    ∷ (128 ∷ 128 ∷ 128 ∷ 128 ∷ 128 ∷ []) ∷ (133 ∷ 128 ∷ 128 ∷ 128 ∷ 128 ∷ 0 ∷ []) ∷ [])
    ≡ Ok (4026531840, 5) ∷ Ok (4294967295, 5) ∷ (Err Misspelt) ∷ (Err Misspelt) ∷ (Err Misspelt) ∷ (Err Misspelt) ∷ []
unfolding read_groups
fifth_bytes = refl

-- The bytes end before the number does.
pub ended : fronts ([] ∷ (128 ∷ []) ∷ (128 ∷ 128 ∷ 128 ∷ 128 ∷ []) ∷ []) ≡ Err Ended ∷ (Err Ended) ∷ (Err Ended) ∷ []
unfolding read_groups
ended = refl
