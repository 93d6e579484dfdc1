-- Reading a decimal number without leading zeros from the front of a text.
use Rattle.std.specs.Prelude.{ℕ, ◌+◌, ◌-◌, ◌*◌, ◌≡◌, Bool, false, cond, ◌&&◌, List, [], ◌∷◌, ltb, leb}

-- A digit's byte; one that may begin a number from `least` to `most`; one that may follow digits that come to v.
abbrev pub digit : ℕ → Bool
digit c = leb 48 c && ltb c 58

unfoldable pub opens : ℕ → ℕ → ℕ → Bool
opens least most c = digit c && (leb least (c - 48) && leb (c - 48) most)

unfoldable pub fits : ℕ → ℕ → ℕ → Bool
fits v most c = digit c && (ltb 0 v && leb (v * 10 + (c - 48)) most)

-- The digits so far come to v: the further ones, and then `go` with the number, the rest of the text and its position.
unfoldable pub digits : {R : Type 0} → ℕ → ℕ → List ℕ → ℕ → (ℕ → List ℕ → ℕ → R) → R
digits most v [] at go = go v [] at
digits most v (c ∷ s) at go = cond (fits v most c) (digits most (v * 10 + (c - 48)) s (at + 1) go) (go v (c ∷ s) at)

-- A number from `least` to `most` at a position, or `stop` where none begins.
unfoldable pub numeral : {R : Type 0} → ℕ → ℕ → List ℕ → ℕ → (ℕ → R) → (ℕ → List ℕ → ℕ → R) → R
numeral least most [] at stop go = stop at
numeral least most (c ∷ s) at stop go = cond (opens least most c) (digits most (c - 48) s (at + 1) go) (stop at)

-- No digit at the head.
abbrev pub ended : List ℕ → Type 0
ended [] = Unit {0}
ended (c ∷ s) = digit c ≡ false
