-- The phrases one after another, and where each begins.
use Rattle.std.specs.Prelude.{ℕ, ◌+◌, List, [], ◌∷◌, ◌++◌, length}
use Prim.Native.String.{String}
use Rattle.model.specs.Decimals.{text}
use Rattle.model.specs.Sentences.{phrases}

unfoldable pub join : List String → List ℕ
join [] = []
join (p ∷ rest) = text p ++ join rest

unfoldable pub starts_from : ℕ → List String → List ℕ
starts_from at [] = at ∷ []
starts_from at (p ∷ rest) = at ∷ starts_from (at + length (text p)) rest

unfoldable pub joined : List ℕ
joined = join phrases

unfoldable pub starts : List ℕ
starts = starts_from 0 phrases

-- No phrase has more bytes.
abbrev pub most_phrase : ℕ
most_phrase = 73
