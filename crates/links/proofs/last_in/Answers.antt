-- `last_in` gives the row before that of the vertex after the last one.
use Prim.Native.Nat.{ℕ, ◌-◌}
use mathlib.Core.Path.{ap, ◌∙◌}
use Rattle.links.proofs.last_in.Goals as goal

pub returns : goal.returns
returns c = c.one_before.ensures ∙ ap (λ (n : ℕ). n - 1) c.place_of.ensures
