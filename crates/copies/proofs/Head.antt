-- The numbers before the vertices, stored one after another.
use Prim.Native.Nat.{ℕ}
use mathlib.Core.Path.{◌≡◌, ap, ◌∙◌}
use mathlib.Core.List.{List, flat_map}
use lib.ListN.{set}
use lib.Seq.{sets}
use Rattle.model.specs.Places as places
use Rattle.model.specs.Numbers.{function_numbers, table}
use Rattle.model.specs.Drawings.{drawn_scratchpad, drawn_functions, drawn_function}
use Rattle.copies.specs.Parts.{head_numbers}

pub head_stored : (d l l' : List ℕ) (size count : ℕ) → size ≡ drawn_scratchpad d → count ≡ drawn_functions d →
    l' ≡ sets (set (set l places.scratchpad size) places.function_count count) places.size (flat_map function_numbers (table count (drawn_function d))) →
    l' ≡ sets l places.scratchpad (head_numbers d)
head_stored d l l' size count e e' is =
    is
    ∙ ap (λ (a : ℕ). sets (set (set l places.scratchpad a) places.function_count count) places.size (flat_map function_numbers (table count (drawn_function d)))) e
    ∙ ap (λ (n : ℕ). sets (set (set l places.scratchpad (drawn_scratchpad d)) places.function_count n) places.size (flat_map function_numbers (table n (drawn_function d)))) e'
