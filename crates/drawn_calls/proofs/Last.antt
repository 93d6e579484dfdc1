-- Whether the last vertex calls, where these were read.
use Prim.Native.Nat.{ℕ, ◌-◌}
use mathlib.Core.Path.{◌≡◌, sym, ap, ◌∙◌}
use mathlib.Core.List.{List}
use mathlib.Core.Bool.{Bool}
use Rattle.model.specs.Places as places
use Rattle.model.specs.Drawings.{drawn_count, drawn_item, callee_of, called_by}
use Rattle.model.specs.Inlined.{calls_some, last_calls}

pub last_told : (d : List ℕ) (f : ℕ) {count callee : ℕ} {a b : Bool} →
    count ≡ drawn_count d f → callee ≡ drawn_item d f places.function places.vertex_width (count - 1) → a ≡ calls_some (callee_of callee) → a ≡ b →
    last_calls d f ≡ b
unfolding called_by
last_told d f counted read told e =
    ap (λ (n : ℕ). calls_some (callee_of (drawn_item d f places.function places.vertex_width (n - 1)))) (sym counted)
    ∙ ap (λ (n : ℕ). calls_some (callee_of n)) (sym read)
    ∙ sym told
    ∙ e
